-- Records one after the other: reading a record does not look behind it, so octets that are whole records, and records behind them, are
-- read as the ones and then the others; and a second specification octet of zero is read as none anywhere in a block. Assumes nothing.
use mathlib.Core.Path.{◌≡◌, refl, sym, ap, ◌∙◌}
use mathlib.Core.Bool.{true, false}
use mathlib.Core.List.{List, [], ◌∷◌, ◌++◌, append_assoc, append-nil}
use Prim.Native.Nat.{ℕ, zero, suc, ◌+◌, ◌≤◌, ◌<◌}
use native.Mathlib.Omega.{arith}
use lib.ListN.{length, length-append}
use Rattle.octets.specs.Choice.{odd}
use Rattle.octets.specs.Numbers.{Octets}
use Rattle.layouts.specs.Formats.{Parsed, refused, got}
use Rattle.layouts.specs.Categories.{Category, category, known}
use Rattle.blocks.specs.Records.{Rec, layout_of, put_items}
use Rattle.blocks.specs.Blocks.{Block, wrong, all, with, records_at, block_of, headed}
use Rattle.blocks.proofs.Suffixes.{record_of, first, records, records-step, records-none}
use Rattle.blocks.proofs.WindowLaws.{records-whole}
use Rattle.blocks.proofs.RecordLaws.{record_any, record_held}
use Rattle.blocks.proofs.RecordTheorems.{normal_short, rest-octets, second-zero}
use Rattle.blocks.proofs.BlockLaws.{record_some, category-cat, headed-read}

record_behind : (c : Category) (u v y : List ℕ) (r : Rec) → Octets u → record_of c u ≡ got r v → record_of c (u ++ y) ≡ got r (v ++ y)
record_behind c u v y r o h =
    let w = record_held c u r v o h in
    let items = put_items (layout_of c r.marks) r.items w.bits in
    let is : u ++ y ≡ w.spec ++ (items ++ (v ++ y))
    = ap (λ (x : List ℕ). x ++ y) w.is ∙ append_assoc w.spec (items ++ v) y ∙ ap (λ (x : List ℕ). w.spec ++ x) (append_assoc items v y) in
    ap (record_of c) is ∙ record_any c r w.spec w.reads w.fine w.bits (v ++ y)

-- a record has octets
record_shorter : (c : Category) (u v : List ℕ) (r : Rec) → Octets u → record_of c u ≡ got r v → length v < length u
record_shorter c u v r o h = omega (arith, normal_short c u r v o h, record_some c r (record_held c u r v o h).fine)

not_all : {n at cat : ℕ} {rs : List Rec} → wrong n at ≡ all cat rs → ⊥
not_all h = let z : ◌≡◌ {A = ℕ} 0 1 = cc in omega arith

-- a block of a record and others
with_all : (r : Rec) (b : Block) (cat : ℕ) (rs : List Rec) → with r b ≡ all cat rs → (ts : List Rec) × (b ≡ all cat ts) × (rs ≡ r ∷ ts)
with_all r (wrong n at) cat rs h = absurd (not_all h)
with_all r (all cat' ts) cat rs h = (ts, cc, cc)

module _ (c : Category) (cat : ℕ) where
  -- octets y that are read as records ts, whatever the fuel that is enough
  abbrev Reads : ℕ → List ℕ → List Rec → Type 0
  Reads len y ts = (k : ℕ) → length y ≤ k → records k len c y ≡ all cat ts

  -- the first record and the others
  reads_first : (len : ℕ) (u v : List ℕ) (r : Rec) (ts : List Rec) → 0 < length u → record_of c u ≡ got r v → length v < length u → Reads len v ts
      → Reads len u (r ∷ ts)
  reads_first len u v r ts some h l ih zero k = absurd (omega arith)
  reads_first len u v r ts some h l ih (suc n) k = records-step len c n u some ∙ rw (h, ih n (omega arith))

  module _ (same : c.cat ≡ cat) where
    reads_none : (len : ℕ) → Reads len [] []
    reads_none len k l = records-none len c k ∙ ap (λ (n : ℕ). all n []) same

    -- octets that are whole records, and records behind them
    reads-join : (n len len' : ℕ) (y : List ℕ) (ts : List Rec) → Reads len' y ts → (a : List ℕ) (rs : List Rec) → Octets a
        → records n len c a ≡ all cat rs → Reads len' (a ++ y) (rs ++ ts)
    unfolding records
    reads-join zero len len' y ts w [] rs o e = let none : [] ≡ rs = cc in rw (← none) w
    reads-join zero len len' y ts w (x ∷ a) rs o e = absurd (not_all e)
    reads-join (suc n) len len' y ts w [] rs o e = let none : [] ≡ rs = cc in rw (← none) w
    reads-join (suc n) len len' y ts w (x ∷ a) rs o e = go (record_of c (x ∷ a)) refl (reads-join n len len' y ts w) e
      where
        go : (m : Parsed (List ℕ) Rec) → record_of c (x ∷ a) ≡ m
            → ((v : List ℕ) (rs : List Rec) → Octets v → records n len c v ≡ all cat rs → Reads len' (v ++ y) (rs ++ ts))
            → first len (length (x ∷ a)) m (λ t. records n len c t) ≡ all cat rs → Reads len' ((x ∷ a) ++ y) (rs ++ ts)
        go (refused k) f ih h = absurd (not_all h)
        go (got r v) f ih h =
            let (us, b, is) = with_all r (records n len c v) cat rs h in
            let shorter = record_shorter c (x ∷ a) v r o f in
            let l : length (v ++ y) < length ((x ∷ a) ++ y) = rw (length-append, length-append) (omega arith) in
            rw is
            (reads_first len' ((x ∷ a) ++ y) (v ++ y) r (us ++ ts) (omega arith) (record_behind c (x ∷ a) v y r o f) l
            (ih v us (rest-octets c (x ∷ a) r v o f) b))

    -- any fuel that is enough will do
    reads-any : (n len len' : ℕ) (y : List ℕ) (ts : List Rec) → Octets y → records n len c y ≡ all cat ts → Reads len' y ts
    reads-any n len len' y ts o e = rw (append-nil, append-nil) at (reads-join n len len' [] [] (reads_none len') y ts o e)

    -- a second specification octet of zero before the first record's items
    reads_second : (n len len' x : ℕ) (b : List ℕ) (ts : List Rec) → 2 ≤ c.most → odd x ≡ false → Octets (x ∷ b)
        → records n len c (x ∷ b) ≡ all cat ts → Reads len' ((x + 1) ∷ 0 ∷ b) ts
    unfolding records
    reads_second zero len len' x b ts two even o e = absurd (not_all e)
    reads_second (suc n) len len' x b ts two even o e = go (record_of c (x ∷ b)) refl e
      where
        go : (m : Parsed (List ℕ) Rec) → record_of c (x ∷ b) ≡ m → first len (length (x ∷ b)) m (λ t. records n len c t) ≡ all cat ts
            → Reads len' ((x + 1) ∷ 0 ∷ b) ts
        go (refused k) f h = absurd (not_all h)
        go (got r v) f h =
            let (us, w, is) = with_all r (records n len c v) cat ts h in
            let shorter = record_shorter c (x ∷ b) v r o f in
            rw is
            (reads_first len' ((x + 1) ∷ 0 ∷ b) v r us (omega arith) (second-zero c two x b even ∙ f) (omega arith)
            (reads-any n len len' v us (rest-octets c (x ∷ b) r v o f) w))

-- Octets that are records and nothing else, by offsets: whatever the fuel that is enough, and wherever their block ends.
pub whole-reads : (cat n : ℕ) (y : List ℕ) (ts : List Rec) → Octets y → records_at y (length y) (category cat) n 0 ≡ all cat ts
    → (k len : ℕ) → length y ≤ k → records k len (category cat) y ≡ all cat ts
whole-reads cat n y ts o e k len l =
    reads-any (category cat) cat (category-cat cat) n (length y) len y ts o (records-whole (category cat) n y ∙ e) k l

-- A block in which one record, behind whole records a, has a second specification octet of zero has the records of the block without it.
module _ (cat : ℕ) (k : known cat ≡ true) (two : 2 ≤ (category cat).most) (a b : List ℕ) (x : ℕ) (o : Octets a) (o' : Octets (x ∷ b))
    (even : odd x ≡ false) (n : ℕ) (rs ts : List Rec) (e : records_at a (length a) (category cat) n 0 ≡ all cat rs)
    (f : records_at (x ∷ b) (length (x ∷ b)) (category cat) n 0 ≡ all cat ts) (fit : 3 + length (a ++ ((x + 1) ∷ 0 ∷ b)) < 65536) (t : List ℕ) where
  pub second-records : (block_of (headed cat (a ++ ((x + 1) ∷ 0 ∷ b)) ++ t) ≡ all cat (rs ++ ts)) × (block_of (headed cat (a ++ (x ∷ b)) ++ t) ≡ all cat (rs ++ ts))
  second-records =
      let c = category cat in
      let same = category-cat cat in
      let m = length a + length (x ∷ b) in
      let e' = whole-reads cat n a rs o e m 0 (omega arith) in
      let f' = whole-reads cat n (x ∷ b) ts o' f m 0 (omega arith) in
      let longer = a ++ ((x + 1) ∷ 0 ∷ b) in
      let plain = a ++ (x ∷ b) in
      let l : length longer ≡ suc (length plain) = rw (length-append, length-append) (omega arith) in
      let some : 0 < length plain = rw length-append (omega arith) in
      let one = reads-join c cat same m 0 (3 + length longer) ((x + 1) ∷ 0 ∷ b) ts (reads_second c cat same m 0 (3 + length longer) x b ts two even o' f') a rs o e' in
      let other = reads-join c cat same m 0 (3 + length plain) (x ∷ b) ts (reads-any c cat same m 0 (3 + length plain) (x ∷ b) ts o' f') a rs o e' in (
        headed-read cat longer t fit k (omega arith) ∙ one (3 + length longer) (omega arith),
        headed-read cat plain t (omega arith) k some ∙ other (3 + length plain) (omega arith),
      )

  pub second_block : block_of (headed cat (a ++ ((x + 1) ∷ 0 ∷ b)) ++ t) ≡ block_of (headed cat (a ++ (x ∷ b)) ++ t)
  second_block = second-records.0 ∙ sym second-records.1
