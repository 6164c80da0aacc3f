-- What is put out are octets. Assumes nothing.
use mathlib.Core.Path.{◌≡◌, refl}
use mathlib.Core.Bool.{Bool, true, false}
use mathlib.Core.List.{List, [], ◌∷◌, ◌++◌}
use Prim.Native.Nat.{ℕ, zero, suc, ◌+◌, ◌*◌, ◌/◌, ◌%◌, ◌-◌, ◌<◌, ◌≤◌}
use native.Mathlib.Omega.{arith}
use borrow.Author.Tests.{ltb-true, ltb-false}
use lib.Dec.{ltb}
use lib.ListN.{length, get_or, drop, get_or-append}
use lib.Seq.{get_or-append-add}
use Rattle.octets.specs.Choice.{pick}
use Rattle.octets.specs.Numbers.{Octets, octets}
use Rattle.layouts.specs.Groups.{merge}
use Rattle.layouts.specs.Formats.{Format, done, stop, ask, Trace, put}
use Rattle.layouts.specs.Categories.{Category, category}
use Rattle.blocks.specs.Specification.{zeros, put_marks}
use Rattle.blocks.specs.Records.{Rec, layout_of, put_items, put_rec}
use Rattle.blocks.specs.Blocks.{put_recs, put_block}
use Rattle.blocks.specs.Meaning.{sevens}
use Rattle.blocks.proofs.MeaningLaws.{Sevens}

pub joined : (a b : List ℕ) → Octets a → Octets b → Octets (a ++ b)
joined a b o p i = go (ltb i (length a)) refl
  where
    go : (t : Bool) → ltb i (length a) ≡ t → get_or (a ++ b) i 0 < 256
    go true e = rw (get_or-append a b 0 i (ltb-true i (length a) e)) (o i)
    go false e =
        let l = ltb-false i (length a) e in
        let at : i ≡ length a + (i - length a) = omega arith in
        rw (at, get_or-append-add a b (i - length a) 0) (p (i - length a))

none : Octets []
none i = omega arith

pub one : (x : ℕ) (xs : List ℕ) → x < 256 → Octets xs → Octets (x ∷ xs)
one x xs h o zero = h
one x xs h o (suc i) = o i

pub octets-are : (k v : ℕ) → Octets (octets k v)
unfolding octets
octets-are zero v = none
octets-are (suc k) v = joined (octets k (v / 256)) (v % 256 ∷ []) (octets-are k (v / 256)) (one (v % 256) [] (omega arith) none)

put-are : (f : Format) (tr : Trace) (xs : List ℕ) → Octets (put f tr xs)
unfolding put
put-are done tr xs = none
put-are (stop n) tr xs = none
put-are (ask g k) [] xs = none
put-are (ask g k) (v ∷ tr) xs =
    joined (octets g.wide (merge g.parts v (get_or xs 0 0))) (put (k v) tr (drop 1 xs)) (octets-are g.wide _) (put-are (k v) tr (drop 1 xs))

items-are : (fs : List Format) (trs : List Trace) (xs : List (List ℕ)) → Octets (put_items fs trs xs)
unfolding put_items
items-are [] trs xs = none
items-are (f ∷ fs) [] xs = none
items-are (f ∷ fs) (tr ∷ trs) xs = joined (put f tr (get_or xs 0 [])) (put_items fs trs (drop 1 xs)) (put-are f tr _) (items-are fs trs (drop 1 xs))

marks-are : (gs : List ℕ) → Sevens gs → Octets (put_marks gs)
unfolding put_marks
marks-are [] h = none
marks-are (g ∷ gs) h = go (zeros gs) (marks-are gs h.1)
  where
    go : (b : Bool) → Octets (put_marks gs) → Octets (pick b (g * 2 ∷ []) ((g * 2 + 1) ∷ put_marks gs))
    go true o = one (g * 2) [] (omega (arith, h.0)) none
    go false o = one (g * 2 + 1) (put_marks gs) (omega (arith, h.0)) o

pub marks-short : (gs : List ℕ) → length (put_marks gs) ≤ length gs
unfolding put_marks
marks-short [] = omega arith
marks-short (g ∷ gs) = go (zeros gs) (marks-short gs)
  where
    go : (b : Bool) → length (put_marks gs) ≤ length gs → length (pick b (g * 2 ∷ []) ((g * 2 + 1) ∷ put_marks gs)) ≤ suc (length gs)
    go true h = omega arith
    go false h = omega arith

pub sevens-are : (n m : ℕ) → Sevens (sevens n m)
unfolding sevens
sevens-are zero m = tt
sevens-are (suc n) m = (omega arith, sevens-are n (m / 128))

record_are : (c : Category) (r : Rec) → Sevens r.marks → Octets (put_rec c r)
unfolding put_rec
record_are c r h =
    joined (put_marks r.marks) (put_items (layout_of c r.marks) r.items []) (marks-are r.marks h) (items-are (layout_of c r.marks) r.items [])

-- records whose marks are seven to a number
abbrev pub AllSevens : List Rec → Type 0
AllSevens [] = Unit {0}
AllSevens (r ∷ rs) = Sevens r.marks × AllSevens rs

records-are : (c : Category) (rs : List Rec) → AllSevens rs → Octets (put_recs c rs)
unfolding put_recs
records-are c [] h = none
records-are c (r ∷ rs) h = joined (put_rec c r) (put_recs c rs) (record_are c r h.0) (records-are c rs h.1)

pub block-are : (cat : ℕ) (rs : List Rec) → cat < 256 → AllSevens rs → Octets (put_block cat rs)
unfolding put_block
block-are cat rs k h =
    let body = put_recs (category cat) rs in
    let len = octets 2 (3 + length body) in
    one cat (len ++ body) k (joined len body (octets-are 2 (3 + length body)) (records-are (category cat) rs h))
