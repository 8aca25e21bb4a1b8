-- Two results that meet a contract are equal: the public functions of dependencies, enumeration, products and dependency_orderings.
use Rattle.laws.proofs.Determined.{one-result}
use Rattle.promises.proofs.Once.{OneAnswer, OneWith}
use Rattle.dependencies.proofs.checking.lawful_map.Reads as DependenciesCheckingLawfulMap
use Rattle.dependencies.proofs.checking.check_insert.Reads as DependenciesCheckingCheckInsert
use Rattle.dependencies.proofs.checking.check_map.Reads as DependenciesCheckingCheckMap
use Rattle.dependencies.proofs.inserting.nothing.Reads as DependenciesInsertingNothing
use Rattle.dependencies.proofs.inserting.refusal.Reads as DependenciesInsertingRefusal
use Rattle.dependencies.proofs.inserting.options_known.Reads as DependenciesInsertingOptionsKnown
use Rattle.dependencies.proofs.inserting.given_below.Reads as DependenciesInsertingGivenBelow
use Rattle.dependencies.proofs.inserting.packed.Reads as DependenciesInsertingPacked
use Rattle.dependencies.proofs.inserting.find_key.Reads as DependenciesInsertingFindKey
use Rattle.dependencies.proofs.inserting.insert_in.Reads as DependenciesInsertingInsertIn
use Rattle.dependencies.proofs.open_map.Reads as DependenciesOpenMap
use Rattle.dependencies.proofs.check.Reads as DependenciesCheck
use Rattle.dependencies.proofs.insert.Reads as DependenciesInsert
use Rattle.enumeration.proofs.marking.new_enumerator.Reads as EnumerationMarkingNewEnumerator
use Rattle.enumeration.proofs.marking.mark.Reads as EnumerationMarkingMark
use Rattle.enumeration.proofs.prefixes.nothing_found.Reads as EnumerationPrefixesNothingFound
use Rattle.products.proofs.choosing.start_of.Reads as ProductsChoosingStartOf
use Rattle.products.proofs.choosing.choice_at.Reads as ProductsChoosingChoiceAt
use Rattle.products.proofs.choosing.count_choices.Reads as ProductsChoosingCountChoices
use Rattle.products.proofs.ordering.factorial.Reads as ProductsOrderingFactorial
use Rattle.products.proofs.ordering.ordering_at.Reads as ProductsOrderingOrderingAt
use Rattle.dependency_orderings.proofs.answering.answer_prefixes.Reads as DependencyOrderingsAnsweringAnswerPrefixes
use Rattle.dependency_orderings.proofs.checking.prefix_number.Reads as DependencyOrderingsCheckingPrefixNumber
use Rattle.dependency_orderings.proofs.checking.generate_number.Reads as DependencyOrderingsCheckingGenerateNumber
use Rattle.dependency_orderings.proofs.construct_prefix_orderings.Reads as DependencyOrderingsConstructPrefixOrderings
use Rattle.dependency_orderings.proofs.generate_dependency_orderings.Reads as DependencyOrderingsGenerateDependencyOrderings
use Rattle.dependency_orderings.proofs.writing.measure_all.Reads as DependencyOrderingsWritingMeasureAll

-- ---- dependencies

pub dependencies-checking-lawful_map : (κs : _) (a : _) → OneAnswer (DependenciesCheckingLawfulMap.Learnt κs a)
dependencies-checking-lawful_map κs a r r' s s' = one-result

pub dependencies-checking-check_insert : (κs : _) (a : _) → OneAnswer (DependenciesCheckingCheckInsert.Learnt κs a)
dependencies-checking-check_insert κs a r r' s s' = one-result

pub dependencies-checking-check_map : (κs : _) (a : _) → OneAnswer (DependenciesCheckingCheckMap.Learnt κs a)
dependencies-checking-check_map κs a r r' s s' = one-result

pub dependencies-inserting-nothing : (κs : _) (a : _) → OneAnswer (DependenciesInsertingNothing.Learnt κs a)
dependencies-inserting-nothing κs a r r' s s' = one-result

pub dependencies-inserting-refusal : (κs : _) (a : _) → OneAnswer (DependenciesInsertingRefusal.Learnt κs a)
dependencies-inserting-refusal κs a r r' s s' = one-result

pub dependencies-inserting-options_known : (κs : _) (a : _) → OneAnswer (DependenciesInsertingOptionsKnown.Learnt κs a)
dependencies-inserting-options_known κs a r r' s s' = one-result

pub dependencies-inserting-given_below : (κs : _) (a : _) → OneAnswer (DependenciesInsertingGivenBelow.Learnt κs a)
dependencies-inserting-given_below κs a r r' s s' = one-result

pub dependencies-inserting-packed : (κs : _) (a : _) → OneAnswer (DependenciesInsertingPacked.Learnt κs a)
dependencies-inserting-packed κs a r r' s s' = one-result

pub dependencies-inserting-find_key : (κs : _) (a : _) → OneAnswer (DependenciesInsertingFindKey.Learnt κs a)
dependencies-inserting-find_key κs a r r' s s' = one-result

pub dependencies-inserting-insert_in : (κs : _) (a : _) → OneAnswer (DependenciesInsertingInsertIn.Learnt κs a)
dependencies-inserting-insert_in κs a r r' s s' = one-result

pub dependencies-open_map : (κs : _) (a : _) → OneAnswer (DependenciesOpenMap.Learnt κs a)
dependencies-open_map κs a r r' s s' = one-result

pub dependencies-check : (κs : _) (a : _) → OneAnswer (DependenciesCheck.Learnt κs a)
dependencies-check κs a r r' s s' = one-result

pub dependencies-insert : (κs : _) (a : _) → OneAnswer (DependenciesInsert.Learnt κs a)
dependencies-insert κs a r r' s s' = one-result

-- ---- enumeration

pub enumeration-marking-new_enumerator : (κs : _) (a : _) → OneAnswer (EnumerationMarkingNewEnumerator.Learnt κs a)
enumeration-marking-new_enumerator κs a r r' s s' = one-result

pub enumeration-marking-mark : (κs : _) (a : _) → OneAnswer (EnumerationMarkingMark.Learnt κs a)
enumeration-marking-mark κs a r r' s s' = one-result

pub enumeration-prefixes-nothing_found : (κs : _) (a : _) → OneAnswer (EnumerationPrefixesNothingFound.Learnt κs a)
enumeration-prefixes-nothing_found κs a r r' s s' = one-result

-- ---- products

pub products-choosing-start_of : (κs : _) (a : _) → OneAnswer (ProductsChoosingStartOf.Learnt κs a)
products-choosing-start_of κs a r r' s s' = one-result

pub products-choosing-choice_at : (κs : _) (a : _) → OneAnswer (ProductsChoosingChoiceAt.Learnt κs a)
products-choosing-choice_at κs a r r' s s' = one-result

pub products-choosing-count_choices : (κs : _) (a : _) → OneAnswer (ProductsChoosingCountChoices.Learnt κs a)
products-choosing-count_choices κs a r r' s s' = one-result

pub products-ordering-factorial : (κs : _) (a : _) → OneAnswer (ProductsOrderingFactorial.Learnt κs a)
products-ordering-factorial κs a r r' s s' = one-result

pub products-ordering-ordering_at : (κs : _) (a : _) → OneAnswer (ProductsOrderingOrderingAt.Learnt κs a)
products-ordering-ordering_at κs a r r' s s' = one-result

-- ---- dependency_orderings

pub dependency_orderings-answering-answer_prefixes : (κs : _) (a : _) → OneWith (λ s. s.1.1.0.now) (DependencyOrderingsAnsweringAnswerPrefixes.Learnt κs a)
dependency_orderings-answering-answer_prefixes κs a r r' s s' = one-result

pub dependency_orderings-checking-prefix_number : (κs : _) (a : _) → OneAnswer (DependencyOrderingsCheckingPrefixNumber.Learnt κs a)
dependency_orderings-checking-prefix_number κs a r r' s s' = one-result

pub dependency_orderings-checking-generate_number : (κs : _) (a : _) → OneAnswer (DependencyOrderingsCheckingGenerateNumber.Learnt κs a)
dependency_orderings-checking-generate_number κs a r r' s s' = one-result

pub dependency_orderings-construct_prefix_orderings : (κs : _) (a : _) → OneWith (λ s. s.1.1.1.1.0.now) (DependencyOrderingsConstructPrefixOrderings.Learnt κs a)
dependency_orderings-construct_prefix_orderings κs a r r' s s' = one-result

pub dependency_orderings-generate_dependency_orderings : (κs : _) (a : _) → OneWith (λ s. s.1.1.1.0.now) (DependencyOrderingsGenerateDependencyOrderings.Learnt κs a)
dependency_orderings-generate_dependency_orderings κs a r r' s s' = one-result

pub dependency_orderings-writing-measure_all : (κs : _) (a : _) → OneAnswer (DependencyOrderingsWritingMeasureAll.Learnt κs a)
dependency_orderings-writing-measure_all κs a r r' s s' = one-result
