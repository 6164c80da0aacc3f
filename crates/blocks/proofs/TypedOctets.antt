-- The typed record that is made by the starts which the walk over the fields notes is the record that was read. Assumes nothing.
use mathlib.Core.Path.{◌≡◌, refl, sym, ap, ◌∙◌, subst}
use mathlib.Core.Bool.{Bool, true, false}
use mathlib.Core.List.{List}
use Prim.Native.Nat.{ℕ, ◌-◌, ◌≤◌}
use native.Mathlib.Omega.{arith}
use lib.Dec.{eqb}
use lib.ListN.{length, get_or}
use Rattle.octets.specs.Choice.{pick}
use Rattle.octets.specs.Numbers.{Octets}
use Rattle.layouts.specs.Formats.{got}
use Rattle.layouts.specs.Offsets.{trace_at}
use Rattle.layouts.specs.Layouts.{is_unused, format}
use Rattle.layouts.specs.Tables.{layout}
use Rattle.layouts.specs.Categories.{known, category, entries_form}
use Rattle.layouts.specs.declared.form.Form.{Form}
use Rattle.items.specs.Typed.{place_at}
use Rattle.blocks.specs.Forms.{form_number}
use Rattle.blocks.specs.Specification.{flags}
use Rattle.blocks.specs.Marks.{marks_of, groups_of}
use Rattle.blocks.specs.Records.{Rec}
use Rattle.blocks.specs.Offsets.{record_at}
use Rattle.blocks.specs.Typed.{typed, typed_by, typed_rec}
use Rattle.blocks.specs.Steps.{items_from}
use Rattle.blocks.proofs.BlockLaws.{category-cat}
use Rattle.blocks.proofs.WalkSteps.{Table, table}
use Rattle.blocks.proofs.RecordStarts.{Filled, filled-notes}
use Rattle.blocks.proofs.TypedLaws.{found, Taken, taken, typed-found}

entries-used : (b : Bool) → is_unused (layout (pick b Form.Versions Form.Statistics)) ≡ false
entries-used true = refl
entries-used false = refl

-- items that start at the same offsets make the same typed record
typed-starts : (s : List ℕ) (cat marks : ℕ) (a b : Form → ℕ) → ((f : Form) → is_unused (layout f) ≡ false → a f ≡ b f)
    → typed cat marks (λ f. trace_at (format (layout f)) s (a f)) (λ f e. place_at s (a f) e)
    ≡ typed cat marks (λ f. trace_at (format (layout f)) s (b f)) (λ f e. place_at s (b f) e)
typed-starts s cat marks a b h =
    rw (
      h Form.Source refl,
      h Form.MessageType refl,
      h Form.Service refl,
      h Form.Identification refl,
      h Form.Time refl,
      h Form.Batch refl,
      h Form.Sdps refl,
      h Form.Report refl,
      h Form.Station refl,
      h Form.Configuration refl,
      h Form.Range refl,
      h Form.Status refl,
      h (entries_form cat) (entries-used (eqb cat 242)),
      h Form.Expansion refl,
      h Form.Purpose refl,
    )

module _ (s : List ℕ) (len cat at : ℕ) (o : Octets s) (fit : len ≤ length s) (k : known cat ≡ true)
    (starts : List ℕ) (p : ℕ) where
  few : Table cat (category cat)
  few = table cat k

  -- the marks and the items of a record that was read
  made-read : (x : Rec) (q : ℕ) (w : Taken s len cat at o fit k x q)
      → Filled s len (category cat) (marks_of (flags x.marks)) w.behind starts p 33
      → (p ≡ q) × (typed_by s cat (marks_of (flags x.marks)) starts ≡ typed_rec s len (category cat) x w.behind)
  made-read x q w i = (
    i.here ∙ rw w.formats-are (w.end 32 (omega (arith, few.long, few.few))),
    typed-starts s cat (marks_of (flags x.marks)) (λ g. get_or starts (form_number g) 0) (found s len cat at o fit k x w.behind)
        (λ g u. filled-notes s len (category cat) _ _ starts p 33 i (omega (arith, few.long, few.few)) g u ∙ rw w.formats-are)
        ∙ ap
        (λ (n : ℕ). typed n (marks_of (flags x.marks))
        (λ g. trace_at (format (layout g)) s (found s len cat at o fit k x w.behind g)) (λ g e. place_at s (found s len cat at o fit k x w.behind g) e))
        (sym (category-cat cat))
        ∙ typed-found s len cat at o fit k x q w,
  )

  -- The walk has come past the last field: it stands where the record ends, and what it noted makes the typed record.
  pub made : (from marks : ℕ) → from ≡ items_from s len (category cat) at → marks ≡ marks_of (flags (groups_of (from - at) s at))
      → Filled s len (category cat) marks from starts p 33
      → (x : Rec) (q : ℕ) → record_at s len (category cat) at ≡ got x q
      → (p ≡ q) × (typed_by s cat marks starts ≡ typed_rec s len (category cat) x (items_from s len (category cat) at))
  made from marks is of i x q h =
      let w = taken s len cat at o fit k x q h in
      let here : from ≡ w.behind = is ∙ rw w.spec in
      let same : marks ≡ marks_of (flags x.marks) = of ∙ rw here (sym w.marks-are) in
      rw (same, w.spec)
      (made-read x q w
      (subst (λ (m : ℕ). Filled s len (category cat) m w.behind starts p 33) same
      (subst (λ (b : ℕ). Filled s len (category cat) marks b starts p 33) here i)))
