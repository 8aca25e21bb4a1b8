-- Two results that meet a contract are equal: the public functions of records, group_records, session_steps and transcript.
use Rattle.laws.proofs.Determined.{one-result}
use Rattle.promises.proofs.Once.{OneAnswer, OnePart, OneWith}
use Rattle.records.proofs.fields.field.Reads as RecordsFieldsField
use Rattle.records.proofs.fields.wide_field.Reads as RecordsFieldsWideField
use Rattle.records.proofs.kinds.body_length.Reads as RecordsKindsBodyLength
use Rattle.records.proofs.kinds.record_size.Reads as RecordsKindsRecordSize
use Rattle.records.proofs.kinds.is_whole.Reads as RecordsKindsIsWhole
use Rattle.records.proofs.kinds.body_of.Reads as RecordsKindsBodyOf
use Rattle.records.proofs.kinds.read_body.Reads as RecordsKindsReadBody
use Rattle.records.proofs.kinds.is_group_record.Reads as RecordsKindsIsGroupRecord
use Rattle.records.proofs.kinds.group_part.Reads as RecordsKindsGroupPart
use Rattle.records.proofs.kinds.group_number.Reads as RecordsKindsGroupNumber
use Rattle.records.proofs.read_record.Reads as RecordsReadRecord
use Rattle.records.proofs.chosen.Reads as RecordsChosen
use Rattle.records.proofs.chosen_number.Reads as RecordsChosenNumber
use Rattle.group_records.proofs.group.read_group_in.Reads as GroupRecordsGroupReadGroupIn
use Rattle.group_records.proofs.read_group.Reads as GroupRecordsReadGroup
use Rattle.session_steps.proofs.holding.opened.Reads as SessionStepsHoldingOpened
use Rattle.transcript.proofs.session.Reads as TranscriptSession

-- ---- records

pub records-fields-field : (κs : _) (a : _) → OneAnswer (RecordsFieldsField.Learnt κs a)
records-fields-field κs a r r' s s' = one-result

pub records-fields-wide_field : (κs : _) (a : _) → OneAnswer (RecordsFieldsWideField.Learnt κs a)
records-fields-wide_field κs a r r' s s' = one-result

pub records-kinds-body_length : (κs : _) (a : _) → OneAnswer (RecordsKindsBodyLength.Learnt κs a)
records-kinds-body_length κs a r r' s s' = one-result

pub records-kinds-record_size : (κs : _) (a : _) → OneAnswer (RecordsKindsRecordSize.Learnt κs a)
records-kinds-record_size κs a r r' s s' = one-result

pub records-kinds-is_whole : (κs : _) (a : _) → OneAnswer (RecordsKindsIsWhole.Learnt κs a)
records-kinds-is_whole κs a r r' s s' = one-result

pub records-kinds-body_of : (κs : _) (a : _) → OnePart (λ x. x.now) (RecordsKindsBodyOf.Learnt κs a)
records-kinds-body_of κs a r r' s s' = one-result

pub records-kinds-read_body : (κs : _) (a : _) → OneAnswer (RecordsKindsReadBody.Learnt κs a)
records-kinds-read_body κs a r r' s s' = one-result

pub records-kinds-is_group_record : (κs : _) (a : _) → OneAnswer (RecordsKindsIsGroupRecord.Learnt κs a)
records-kinds-is_group_record κs a r r' s s' = one-result

pub records-kinds-group_part : (κs : _) (a : _) → OnePart (λ x. x.now) (RecordsKindsGroupPart.Learnt κs a)
records-kinds-group_part κs a r r' s s' = one-result

pub records-kinds-group_number : (κs : _) (a : _) → OneAnswer (RecordsKindsGroupNumber.Learnt κs a)
records-kinds-group_number κs a r r' s s' = one-result

pub records-read_record : (κs : _) (a : _) → OneAnswer (RecordsReadRecord.Learnt κs a)
records-read_record κs a r r' s s' = one-result

pub records-chosen : (κs : _) (a : _) → OnePart (λ x. x.now) (RecordsChosen.Learnt κs a)
records-chosen κs a r r' s s' = one-result

pub records-chosen_number : (κs : _) (a : _) → OneAnswer (RecordsChosenNumber.Learnt κs a)
records-chosen_number κs a r r' s s' = one-result

-- ---- group_records

pub group_records-group-read_group_in : (κs : _) (a : _) → OneAnswer (GroupRecordsGroupReadGroupIn.Learnt κs a)
group_records-group-read_group_in κs a r r' s s' = one-result

pub group_records-read_group : (κs : _) (a : _) → OneAnswer (GroupRecordsReadGroup.Learnt κs a)
group_records-read_group κs a r r' s s' = one-result

-- ---- session_steps

pub session_steps-holding-opened : (κs : _) (a : _) → OneAnswer (SessionStepsHoldingOpened.Learnt κs a)
session_steps-holding-opened κs a r r' s s' = one-result

-- ---- transcript

pub transcript-session : (κs : _) (a : _) → OneWith (λ s. s.1.0.now) (TranscriptSession.Learnt κs a)
transcript-session κs a r r' s s' = one-result
