-- How a session runs over its input: what is written so far and what is still to come make the whole text.
use Prim.Native.Nat.{ℕ, ◌+◌, ◌-◌, ◌*◌, ◌<◌, ◌≤◌}
use mathlib.Core.List.{List, [], ◌∷◌, ◌++◌, append_assoc}
use Rattle.std.specs.Prelude.{Option, None, Some}
use mathlib.Core.Path.{◌≡◌, refl, sym, ap, ap₂, ◌∙◌, subst}
use native.Mathlib.Omega.{arith}
use lib.ListN.{length, take, drop, length-append, length-drop, drop_of_length-le}
use lib.Seq.{take_all, drop-drop}
use Rattle.lines.specs.Text.{line}
use Rattle.lines.specs.Writing.{Put, RoomFor}
use Rattle.lines.proofs.Puts.{put-none, put-room, put_both, put-length}
use Rattle.arena.specs.Node.{Node}
use Rattle.arena.specs.Arena.{Sound}
use Rattle.arena.specs.Layout.{encode as encode_nodes, decode as nodes_in}
use Rattle.arena.proofs.Layouts.{encode-holds, decode-encode as decode-nodes}
use Rattle.classes.specs.Class.{Class}
use Rattle.classes.specs.Group.{total}
use Rattle.classes.specs.Layout.{encode, decode}
use Rattle.classes.specs.declared.Group.{Group}
use Rattle.classes.proofs.Codec.{coded-encode, decode-encode, length-decode}
use Rattle.demands.proofs.GoodKept.{empty-good}
use Rattle.classes.specs.Good.{Good}
use Rattle.orderings.specs.Layout.{encode as encode_list, decode as orderings_in}
use Rattle.orderings.specs.Good.{Good as GoodList}
use Rattle.orderings.proofs.Codec.{decode-encode as decode-list, length-decode as length-list}
use Rattle.records.specs.Record.{Record, read_record, record_size, item_of}
use Rattle.records.specs.declared.Item.{Item}
use Rattle.records.proofs.Items.{malformed_answer, size_least, size-most}
use Rattle.session_steps.specs.State.{State, start, step}
use Rattle.transcript.specs.Session.{read_all, read_none, read_malformed, read-record, r_word, end_word, reply_text, end_text, script_text}
use Rattle.session_steps.specs.Inner.{Fit, Went, state_of}
use Rattle.transcript.specs.Inner.{said_text}
use Rattle.session_steps.proofs.Told.{step-told}
use Rattle.arena.specs.declared.Refusal.{Refusal}
use Rattle.arena.specs.declared.Refusal.TheVariants.{Malformed}
use Rattle.std.specs.Prelude.{Result, Ok, Err}
use Rattle.session_steps.specs.declared.holding.Holding.{Holding}
use Rattle.session_steps.specs.declared.holding.Stepped.{Stepped}
use Rattle.transcript.proofs.Saying.{said-text}
use Rattle.session_steps.proofs.Bounds.{Small, small-start, step-answered}
use Rattle.transcript.proofs.Scripts.{script-record, script_end, script-stop}
use Rattle.transcript.proofs.LineLengths.{stop-short, reply-short, end_short}

-- the bytes from a place on, in the words of a lent part
abbrev pub part_of : List ℕ → ℕ → List ℕ
part_of input at = take (length input - at) (drop at input)

part-is : (input : List ℕ) (at : ℕ) → part_of input at ≡ drop at input
part-is input at = take_all (length input - at) (drop at input) (omega (arith, length-drop at input))

-- what a session holds at its start
abbrev pub opening : Holding
opening = record { group = encode 256 []; list = encode_list [] }

none-sound : Sound []
none-sound = record { few = omega arith; allowed = λ i l. absurd (omega arith); distinct = λ i j a b. absurd (omega arith) }

pub opening-fit : Fit (encode_nodes []) opening
unfolding encode total
opening-fit =
    record {
      arena = encode-holds [] none-sound;
      group = record { coded = coded-encode 256 [] (omega arith) (omega arith); low = omega arith; high = omega arith; within = omega arith; good = subst (Good (nodes_in (encode_nodes []))) (sym (decode-encode 256 [])) (empty-good (nodes_in (encode_nodes []))) };
      limit = refl;
      list = record { coded = ap encode_list (decode-list []); good = subst GoodList (sym (decode-list [])) (record { few = omega arith; each = λ i l. absurd (omega arith) }) };
    }

pub opening-state : state_of (encode_nodes []) opening ≡ start
unfolding state_of start
opening-state =
    ap (λ (ns : List Node). record { nodes = ns; classes = decode (encode 256 []); orderings = orderings_in (encode_list []) }) (decode-nodes [] none-sound)
    ∙ ap (λ (cs : List Class). record { nodes = []; classes = cs; orderings = orderings_in (encode_list []) }) (decode-encode 256 [])
    ∙ ap (λ (os : List (List ℕ)). record { nodes = []; classes = []; orderings = os }) (decode-list [])

-- the last line, from the struct
abbrev pub last_line : Holding → List ℕ
last_line h = line end_word (h.group.count ∷ h.group.used ∷ h.list.count ∷ [])

pub last_line_lem : (cells : List ℕ) (h : Holding) → Fit cells h → last_line h ≡ end_text (state_of cells h)
unfolding end_text state_of encode
last_line_lem cells h f =
    let a : h.group.count ≡ length (decode h.group) = sym (length-decode h.group) in
    let b : h.group.used ≡ total (decode h.group) = sym (ap (λ (g : Group). g.used) f.group.coded.coded) in
    let c : h.list.count ≡ length (orderings_in h.list) = sym (length-list h.list) in
    ap (λ (n : ℕ). line end_word (n ∷ h.group.used ∷ h.list.count ∷ [])) a
    ∙ ap (λ (n : ℕ). line end_word (length (decode h.group) ∷ n ∷ h.list.count ∷ [])) b
    ∙ ap (λ (n : ℕ). line end_word (length (decode h.group) ∷ total (decode h.group) ∷ n ∷ [])) c

-- the run stands at a place of the input, before record k: what is written, and what is to come
pub record Ran (input old new cells : List ℕ) (h : Holding) (done at k : ℕ) : Type 0 where
  pub inside : at ≤ length input
  pub text : List ℕ
  pub written : Put old 0 text new done
  pub short : done ≤ 2 * at
  pub counted : 4 * k ≤ at + 4
  pub fit : Fit cells h
  pub small : Small (state_of cells h)
  pub goes : script_text 1 start (read_all input) ≡ text ++ script_text k (state_of cells h) (read_all (drop at input))

-- at the start
pub run-begins : (input old cells : List ℕ) (h : Holding) → cells ≡ encode_nodes [] → h ≡ opening → Ran input old old cells h 0 0 1
run-begins input old cells h p q =
    let s : state_of cells h ≡ start = ap (λ (c : List ℕ). state_of c h) p ∙ ap (λ (h : Holding). state_of (encode_nodes []) h) q ∙ opening-state in
    record {
      inside = omega arith;
      text = [];
      written = put-none old 0;
      short = omega arith;
      counted = omega arith;
      fit = subst (λ (c : List ℕ). Fit c h) (sym p) (subst (λ (h : Holding). Fit (encode_nodes []) h) (sym q) opening-fit);
      small = subst Small (sym s) small-start;
      goes = ap (λ (s : State). script_text 1 s (read_all input)) (sym s);
    }

module _ (input old new cells : List ℕ) (h : Holding) (done at k : ℕ) (few : length input ≤ 65536) (space : 131096 ≤ length old) (r : Ran input old new cells h done at k) where
  k-low : k < 100000
  k-low = omega (arith, r.counted, r.inside)

  text-fits : RoomFor old 0 r.text
  text-fits = omega (arith, r.written.past, r.short, r.inside)

  new-length : length new ≡ length old
  new-length = put-length old 0 r.text new done text-fits r.written

  -- there is room for any text that stays within the bound
  has_room : (t : List ℕ) → done + length t ≤ 131096 → RoomFor new done t
  has_room t l = omega (arith, new-length)

  -- what was written and a text after it
  joins : (t new' : List ℕ) (next : ℕ) → Put new done t new' next → Put old 0 (r.text ++ t) new' next
  joins t new' next p = put_both old 0 r.text new done text-fits r.written t new' next p

  last-short : length (last_line h) ≤ 14
  last-short = omega (arith, ap (λ (l : List ℕ). length l) (last_line_lem cells h r.fit), end_short (state_of cells h) r.small)

  -- past the last record
  module _ (past : length input ≤ at) where
    pub end_room : RoomFor new done (last_line h)
    end_room = has_room (last_line h) (omega (arith, r.short, r.inside, last-short))

    module _ (new' : List ℕ) (next : ℕ) (p : Put new done (last_line h) new' next) where
      pub end_length : length new' ≡ length old
      end_length = put-length new done (last_line h) new' next end_room p ∙ new-length

      pub run_ends : Put old 0 (script_text 1 start (read_all input)) new' next
      run_ends =
          let e : script_text k (state_of cells h) (read_all (drop at input)) ≡ last_line h =
          ap (λ (l : List ℕ). script_text k (state_of cells h) (read_all l)) (drop_of_length-le input past)
          ∙ ap (script_text k (state_of cells h)) read_none ∙ script_end k (state_of cells h) ∙ sym (last_line_lem cells h r.fit) in
          subst (λ (t : List ℕ). Put old 0 t new' next) (sym (r.goes ∙ ap (λ (l : List ℕ). r.text ++ l) e)) (joins (last_line h) new' next p)

  module _ (ahead : at < length input) (item : Result Item Refusal) (is : item ≡ item_of (read_record (part_of input at))) where
    part-size : length (part_of input at) ≡ length input - at
    part-size = ap (λ (l : List ℕ). length l) (part-is input at) ∙ length-drop at input

    -- a malformed record
    module _ (why : Refusal) (bad : item ≡ Err why) where
      pub stop-room : RoomFor new done (line r_word (k ∷ 9 ∷ []))
      stop-room = has_room (line r_word (k ∷ 9 ∷ [])) (omega (arith, r.short, r.inside, stop-short k k-low))

      stopped : script_text k (state_of cells h) (read_all (drop at input)) ≡ line r_word (k ∷ 9 ∷ []) ++ last_line h
      stopped =
          let q : read_record (drop at input) ≡ None = ap read_record (sym (part-is input at)) ∙ malformed_answer (part_of input at) why (sym is ∙ bad) in
          ap (script_text k (state_of cells h)) (read_malformed (drop at input) (omega (arith, length-drop at input)) q)
          ∙ script-stop k (state_of cells h) ∙ ap (λ (l : List ℕ). line r_word (k ∷ 9 ∷ []) ++ l) (sym (last_line_lem cells h r.fit))

      both-room : RoomFor new done (line r_word (k ∷ 9 ∷ []) ++ last_line h)
      both-room =
          has_room (line r_word (k ∷ 9 ∷ []) ++ last_line h)
          (omega (arith, length-append (line r_word (k ∷ 9 ∷ [])) (last_line h), r.short, r.inside, stop-short k k-low, last-short))

      module _ (new1 : List ℕ) (next1 : ℕ) (p : Put new done (line r_word (k ∷ 9 ∷ [])) new1 next1) where
        pub stop_end_room : RoomFor new1 next1 (last_line h)
        stop_end_room = put-room new done (line r_word (k ∷ 9 ∷ [])) new1 next1 stop-room p (last_line h) both-room

        module _ (new2 : List ℕ) (next2 : ℕ) (q : Put new1 next1 (last_line h) new2 next2) where
          both-put : Put new done (line r_word (k ∷ 9 ∷ []) ++ last_line h) new2 next2
          both-put = put_both new done (line r_word (k ∷ 9 ∷ [])) new1 next1 stop-room p (last_line h) new2 next2 q

          pub stop-length : length new2 ≡ length old
          stop-length = put-length new done (line r_word (k ∷ 9 ∷ []) ++ last_line h) new2 next2 both-room both-put ∙ new-length

          pub run-stops : Put old 0 (script_text 1 start (read_all input)) new2 next2
          run-stops =
              subst (λ (t : List ℕ). Put old 0 t new2 next2) (sym (r.goes ∙ ap (λ (l : List ℕ). r.text ++ l) stopped))
              (joins (line r_word (k ∷ 9 ∷ []) ++ last_line h) new2 next2 both-put)

    -- a record that is read
    module _ (i : Item) (good : item ≡ Ok i) where
      record Taken : Type 0 where
        x : Record
        was : read_record (part_of input at) ≡ Some x

      taken : Taken
      unfolding item_of
      taken = go (read_record (part_of input at)) refl
        where
          go : (o : Option Record) → read_record (part_of input at) ≡ o → Taken
          go None q = absurd (let e : item ≡ Err Malformed = is ∙ ap item_of q in let n : ◌≡◌ {A = ℕ} 0 1 = cc in omega arith)
          go (Some x) q = record { x = x; was = q }

      abbrev x : Record
      x = taken.x

      -- how many bytes it takes
      pub size_low : 4 ≤ record_size (part_of input at)
      size_low = size_least (part_of input at) x taken.was

      pub size-high : at + record_size (part_of input at) ≤ length input
      size-high = omega (arith, size-most (part_of input at) x taken.was, part-size)

      pub header-there : 4 ≤ length (part_of input at)
      header-there = omega (arith, size_low, size-high, part-size)

      module _ (cells' : List ℕ) (res : Stepped) (w : (x : Record) → read_record (part_of input at) ≡ Some x → Went cells h x cells' res) where
        went : Went cells h x cells' res
        went = w x taken.was

        said-is : said_text k res.said ≡ reply_text k (step x (state_of cells h)).0
        said-is = ap (said_text k) went.said-is ∙ said-text k (step x (state_of cells h)).0 (step-told x (state_of cells h))

        said-short : length (said_text k res.said) ≤ 2 * record_size (part_of input at)
        said-short = omega (arith, ap (λ (l : List ℕ). length l) said-is, reply-short k k-low (part_of input at) x (state_of cells h) taken.was r.small)

        pub said-room : RoomFor new done (said_text k res.said)
        said-room = has_room (said_text k res.said) (omega (arith, r.short, said-short, size-high))

        module _ (new' : List ℕ) (done' : ℕ) (p : Put new done (said_text k res.said) new' done') (size : ℕ) (sized : size ≡ record_size (part_of input at)) where
          on : script_text k (state_of cells h) (read_all (drop at input)) ≡ said_text k res.said ++ script_text (k + 1) (state_of cells' res.holding) (read_all (drop (at + size) input))
          on =
              let q : read_record (drop at input) ≡ Some x = ap read_record (sym (part-is input at)) ∙ taken.was in
              let e : size ≡ record_size (drop at input) = sized ∙ ap record_size (part-is input at) in
              ap (script_text k (state_of cells h)) (read-record (drop at input) x q)
              ∙ script-record k (state_of cells h) x (read_all (drop (record_size (drop at input)) (drop at input)))
              ∙ ap₂ (λ (u v : List ℕ). u ++ v) (sym said-is)
              (ap₂ (λ (s : State) (l : List ℕ). script_text (k + 1) s (read_all l)) (sym went.state-is)
              (ap (λ (n : ℕ). drop n (drop at input)) (sym e) ∙ drop-drop size at input))

          pub run-goes_on : Ran input old new' cells' res.holding done' (at + size) (k + 1)
          run-goes_on =
              record {
                inside = omega (arith, size-high, sized);
                text = r.text ++ said_text k res.said;
                written = joins (said_text k res.said) new' done' p;
                short = omega (arith, p.past, r.short, said-short, sized);
                counted = omega (arith, r.counted, size_low, sized);
                fit = went.fit;
                small = subst Small (sym went.state-is) (step-answered x (state_of cells h) r.small).small;
                goes = r.goes ∙ ap (λ (l : List ℕ). r.text ++ l) on ∙ sym (append_assoc r.text (said_text k res.said) (script_text (k + 1) (state_of cells' res.holding) (read_all (drop (at + size) input))));
              }
