-- Demand 2: what is read equals the layouts (the contracts, with the tables of `layouts`); what is written reads back as the same record;
-- rewriting an accepted block gives the one normal form of its records; spare bits change no value. Assumes nothing.
use mathlib.Core.Path.{◌≡◌, sym, ap, ◌∙◌, subst}
use mathlib.Core.Bool.{true, false}
use mathlib.Core.List.{List, ◌∷◌, ◌++◌, map}
use Prim.Native.Nat.{ℕ, ◌+◌, ◌<◌, ◌≤◌}
use lib.ListN.{length, get_or, take, drop}
use Rattle.octets.specs.Choice.{odd}
use Rattle.octets.specs.Numbers.{Octets, number}
use Rattle.octets.specs.Refusals.{no_such}
use Rattle.layouts.specs.Formats.{got}
use Rattle.layouts.specs.Categories.{Category, category, known, entries_form}
use Rattle.layouts.specs.Alike.{SameBefore}
use Rattle.blocks.specs.Headers.{header_of}
use Rattle.blocks.specs.Records.{Rec, layout_of, put_items}
use Rattle.blocks.specs.Blocks.{all, records_at, block_of, headed}
use Rattle.blocks.specs.Offsets.{record_at}
use Rattle.blocks.specs.Walks.{read_of}
use Rattle.blocks.specs.Steps.{step_of, entry_in, entry_of}
use Rattle.blocks.specs.Meaning.{rec_of}
use Rattle.blocks.specs.Alike.{RecordAlikeAt, RecordsAlikeAt}
use Rattle.blocks.specs.Boundaries.{Visited}
use Rattle.blocks.specs.Typed.{has}
use Rattle.blocks.specs.Head.{Head}
use Rattle.blocks.specs.declared.record.Record.{Record}
use Rattle.blocks.specs.Reading.{Reading}
use Rattle.blocks.specs.Step.{Step}
use Rattle.blocks.specs.Found.{Found}
use Rattle.blocks.proofs.RecordTheorems.{spare-bits}
use Rattle.blocks.proofs.JoinLaws.{second_block}
use Rattle.blocks.proofs.BoundaryLaws.{visited, step_end}
use Rattle.blocks.proofs.SameAnswers.{read_alike, block-alike, step-alike, entry-alike, read-after_len, block-after_len, step-after_len, entry-after_len}
use Rattle.octets.specs.Outcomes.{puts}
use Rattle.writing.specs.Written.{write_of, rewrite_of}
use Rattle.writing.specs.Same.{Same}
use Rattle.octets.specs.Written.{Written}
use Rattle.writing.proofs.RewriteTheorems.{rewrite_accepted, rewrite_reading, rewrite_again, rewrite_short, rewrite_same, rewrite_typed}
use Rattle.writing.proofs.WriteTheorems.{write_normal, write_reading}
use Rattle.writing.proofs.ReadBackTheorems.{write_back, entry-back, entry-none}
use Rattle.demands.specs.Operations.{Reads, Steps, Entries, Writes, Rewrites}
use Rattle.octets.proofs.Outcomes.{Laid, written-laid}
use Rattle.demands.proofs.GivenOutputs.{went_out}
use Rattle.octets.proofs.Parts.{Octets-drop}

-- Steps from 3 visit exactly the records that reading counts, and these mean the records of the block.
pub visits : (s : List ℕ) (len n : ℕ) → Octets s → Reads s (Reading.Accepted len n)
    → (cat : ℕ) × (ts : List Record) × Visited s 3 ts len × (length ts ≡ n) × (block_of s ≡ all cat (map (rec_of s) ts))
visits s len n o h = visited s len n o (sym h.0)

-- and from LEN on no step takes a record.
pub visits-end : (s : List ℕ) (cat len : ℕ) → header_of s ≡ Head.Good cat len → (at : ℕ) → len ≤ at → (r : Step) → Steps s at r → r ≡ Step.Refused no_such 0
visits-end s cat len h at l r k = k.0 ∙ step_end s cat len h at l

-- Reading back what was written: a record t, whose entries and content lie in the source s, went into the output, n octets of it
module _ (s : List ℕ) (o : Octets s) (t : Record) (small : t.marks < 4294967296) (l : List ℕ) (o' : Octets l) (out : List ℕ) (n : ℕ)
    (h : Writes s t l out (Written.Octets n)) where
  abbrev w : Laid (write_of s t) l out n
  w = written-laid (write_of s t) l out n h.0 h.1

  rest : Octets (drop n l)
  rest = Octets-drop n l o'

  -- It is accepted, n octets and one record.
  pub accepted : (r : Reading) → Reads out r → r ≡ Reading.Accepted n 1
  accepted r k =
      k.0 ∙ ap read_of w.same ∙ write_reading s t small w.xs w.is (drop n l) ∙ ap (λ (m : ℕ). Reading.Accepted m 1) (sym w.long)

  -- A step hands out the record that was given: places aside, and values of absent items and extensions taken as zero.
  pub read_back : (v : Record) × Same s t out v × ((r : Step) → Steps out 3 r → r ≡ Step.Taken v (record { at = n }))
  read_back =
      let (v, e, same) = write_back s o t small w.xs w.is (drop n l) rest in (
        v,
        subst (λ (y : List ℕ). Same s t y v) (sym w.same) same,
        λ r k. k.0 ∙ ap (λ (y : List ℕ). step_of y 3) w.same ∙ e ∙ ap (λ (m : ℕ). Step.Taken v (record { at = m })) (sym w.long),
      )

  -- Each entry asked for by number is the source's; there is none where the record has no entries.
  pub entries-back : has t (entries_form t.category) ≡ true → (k : ℕ) (r : Found) → Entries out 3 k r
      → r ≡ entry_in s t.category t.entries.at t.entries.count k
  entries-back m k r e = e.0 ∙ ap (λ (y : List ℕ). entry_of y 3 k) w.same ∙ (entry-back s o t small w.xs w.is (drop n l) rest k m)

  pub no-entries : has t (entries_form t.category) ≡ false → (k : ℕ) (r : Found) → Entries out 3 k r → r ≡ Found.Refused no_such 0
  no-entries m k r e = e.0 ∙ ap (λ (y : List ℕ). entry_of y 3 k) w.same ∙ (entry-none s o t small w.xs w.is (drop n l) rest k m)

  -- It is its own rewriting.
  pub own-rewriting : rewrite_of out ≡ puts (take n out)
  own-rewriting =
      ap rewrite_of w.same ∙ write_normal s t small w.xs w.is (drop n l)
      ∙ sym w.is ∙ went_out (write_of s t) l out n h.0 h.1

-- The normal form: a block s was rewritten into the output, n octets of it
module _ (s : List ℕ) (o : Octets s) (l out : List ℕ) (n : ℕ) (h : Rewrites s l out (Written.Octets n)) where
  abbrev x : Laid (rewrite_of s) l out n
  x = written-laid (rewrite_of s) l out n h.0 h.1

  -- It is accepted, and has the same records: as many, the same marks, values and entries.
  pub same-records : block_of out ≡ block_of s
  same-records = ap block_of x.same ∙ rewrite_accepted s x.xs o x.is (drop n l)

  pub as_many : (len k : ℕ) → Reads s (Reading.Accepted len k) → (r : Reading) → Reads out r → r ≡ Reading.Accepted n k
  as_many len k e r q =
      q.0 ∙ ap read_of x.same ∙ rewrite_reading s x.xs o x.is (drop n l) len k (sym e.0)
      ∙ ap (λ (m : ℕ). Reading.Accepted m k) (sym x.long)

  -- Rewriting it again changes nothing.
  pub again : rewrite_of out ≡ puts (take n out)
  again =
      ap rewrite_of x.same ∙ rewrite_again s x.xs o x.is (drop n l)
      ∙ sym x.is ∙ went_out (rewrite_of s) l out n h.0 h.1

  -- It is at most as long as the block that was read.
  pub not_longer : n ≤ number 2 s 1
  not_longer = subst (λ (m : ℕ). m ≤ number 2 s 1) (sym x.long) (rewrite_short s x.xs o x.is)

-- It is the one normal form of its records: two accepted blocks of one category whose typed records mean the same have one rewriting.
pub one_form : (s t : List ℕ) → Octets s → Octets t → (l n l' n' : ℕ) → Reads s (Reading.Accepted l n) → Reads t (Reading.Accepted l' n')
    → get_or s 0 0 ≡ get_or t 0 0 → (ts us : List Record) → Visited s 3 ts l → Visited t 3 us l' → map (rec_of s) ts ≡ map (rec_of t) us
    → rewrite_of s ≡ rewrite_of t
one_form s t o o' l n l' n' h h' e ts us v v' m = rewrite_typed s t o o' l n l' n' (sym h.0) (sym h'.0) e ts us v v' m

-- Two slices with the same header, each of LEN octets at least
module _ (s t : List ℕ) (first : (i : ℕ) → i < 3 → get_or s i 0 ≡ get_or t i 0)
    (long : 3 ≤ length s) (long' : 3 ≤ length t) (fits : number 2 s 1 ≤ length s) (fits' : number 2 s 1 ≤ length t) where
  -- Where they differ only in spare bits, record by record, reading and rewriting are the same.
  module _ (h : (cat len : ℕ) → header_of s ≡ Head.Good cat len → RecordsAlikeAt s t len (category cat) len 3) where
    pub spare-reading : (r q : Reading) → Reads s r → Reads t q → r ≡ q
    spare-reading r q a b = a.0 ∙ read_alike s t first long long' fits fits' h ∙ sym b.0

    pub spare-rewriting : rewrite_of s ≡ rewrite_of t
    spare-rewriting = rewrite_same s t (block-alike s t first long long' fits fits' h)

  -- Where the record at a start differs only in spare bits, a step and its entries are the same, places too.
  module _ (start : ℕ) (h : (cat len : ℕ) → header_of s ≡ Head.Good cat len → RecordAlikeAt s t len (category cat) start) where
    pub spare-step : (r q : Step) → Steps s start r → Steps t start q → r ≡ q
    spare-step r q a b = a.0 ∙ step-alike s t first long long' fits fits' start h ∙ sym b.0

    pub spare-entry : Octets s → Octets t → (k : ℕ) (r q : Found) → Entries s start k r → Entries t start k q → r ≡ q
    spare-entry o o' k r q a b = a.0 ∙ entry-alike s t first long long' fits fits' start h o o' k ∙ sym b.0

  -- Where they differ only after LEN, every answer is the same.
  module _ (h : SameBefore (number 2 s 1) s t) where
    pub after-reading : (r q : Reading) → Reads s r → Reads t q → r ≡ q
    after-reading r q a b = a.0 ∙ read-after_len s t first long long' fits fits' h ∙ sym b.0

    pub after-rewriting : rewrite_of s ≡ rewrite_of t
    after-rewriting = rewrite_same s t (block-after_len s t first long long' fits fits' h)

    pub after-step : (start : ℕ) (r q : Step) → Steps s start r → Steps t start q → r ≡ q
    after-step start r q a b = a.0 ∙ step-after_len s t first long long' fits fits' h start ∙ sym b.0

    pub after-entry : Octets s → Octets t → (start k : ℕ) (r q : Found) → Entries s start k r → Entries t start k q → r ≡ q
    after-entry o o' start k r q a b = a.0 ∙ entry-after_len s t first long long' fits fits' h o o' start k ∙ sym b.0

-- A second specification octet of zero, in a record behind whole records a, changes no rewriting.
pub second-octet : (cat : ℕ) → known cat ≡ true → 2 ≤ (category cat).most → (a b : List ℕ) (x : ℕ) → Octets a → Octets (x ∷ b) → odd x ≡ false
    → (n : ℕ) (rs ts : List Rec) → records_at a (length a) (category cat) n 0 ≡ all cat rs
    → records_at (x ∷ b) (length (x ∷ b)) (category cat) n 0 ≡ all cat ts
    → 3 + length (a ++ ((x + 1) ∷ 0 ∷ b)) < 65536
    → (t : List ℕ) → rewrite_of (headed cat (a ++ ((x + 1) ∷ 0 ∷ b)) ++ t) ≡ rewrite_of (headed cat (a ++ (x ∷ b)) ++ t)
second-octet cat k two a b x o o' even n rs ts e f fit t = rewrite_same _ _ (second_block cat k two a b x o o' even n rs ts e f fit t)

-- An accepted record is its specification and its values with some spare bits; with any others it is the same record, and the same octets are
-- behind it.
pub any-spare_bits : (c : Category) (s : List ℕ) (r : Rec) (q : ℕ) → Octets s → record_at s (length s) c 0 ≡ got r q
    → (spec : List ℕ) × ((xs : List (List ℕ)) × (s ≡ spec ++ (put_items (layout_of c r.marks) r.items xs ++ drop q s)))
    × ((xs : List (List ℕ)) (t : List ℕ) → t ≡ spec ++ (put_items (layout_of c r.marks) r.items xs ++ drop q s)
    → (p : ℕ) × (record_at t (length t) c 0 ≡ got r p) × (drop p t ≡ drop q s))
any-spare_bits = spare-bits
