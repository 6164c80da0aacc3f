-- Laws of text gathered in a buffer: octets in turn and in parts, what is made of each element, and text that finds room. Assumes nothing.
use mathlib.Core.Path.{◌≡◌, refl, sym, ap, ◌∙◌}
use mathlib.Core.List.{List, [], ◌∷◌, ◌++◌, flat_map, append-nil, append_assoc}
use Prim.Native.Nat.{ℕ, suc, ◌+◌, ◌≤◌, ◌<◌}
use native.Mathlib.Nat.{zero-add, add-zero}
use native.Mathlib.Numerals.{add-one}
use native.Mathlib.Omega.{arith}
use lib.ListN.{length, get_or, take, drop, replicate, length-replicate}
use lib.Seq.{take-suc, take_at}
use borrow.Author.Tests.{lt-ltb}
use Rattle.octets.specs.Numbers.{octets, laid}
use Rattle.octets.proofs.Laying.{laid_none, laid_one, laid-laid, length-laid}
use Rattle.io.specs.Counts.{IsPrefixLen}
use Rattle.text.specs.Gathered.{Gathered, gathered, put_one, put_all}

-- no octet, and one
pub put_none : (g : Gathered) → put_all g [] ≡ g
unfolding put_all
put_none g = refl

pub put_single : (g : Gathered) (x : ℕ) → put_all g (x ∷ []) ≡ put_one g x
unfolding put_all
put_single g x = refl

-- an octet, and others behind it
pub put_cons : (g : Gathered) (x : ℕ) (xs : List ℕ) → put_all g (x ∷ xs) ≡ put_all (put_one g x) xs
unfolding put_all
put_cons g x xs = refl

-- octets in two parts
pub put-append : (g : Gathered) (xs ys : List ℕ) → put_all g (xs ++ ys) ≡ put_all (put_all g xs) ys
unfolding put_all
put-append g [] ys = refl
put-append g (x ∷ xs) ys = put-append (put_one g x) xs ys

-- an octet, and octets in two or three parts, as they were gathered
pub put_one_lem : (g g' : Gathered) (x : ℕ) → g' ≡ put_one g x → g' ≡ put_all g (x ∷ [])
put_one_lem g g' x e = rw put_single e

pub put_then : (g g' g'' : Gathered) (xs ys : List ℕ) → g' ≡ put_all g xs → g'' ≡ put_all g' ys → g'' ≡ put_all g (xs ++ ys)
put_then g g' g'' xs ys e d = rw put-append (rw e at d)

pub put_two : (g g' g'' : Gathered) (xs ys zs : List ℕ) → g' ≡ put_all g xs → g'' ≡ put_all g' (ys ++ zs) → g'' ≡ put_all g (xs ++ ys ++ zs)
put_two g g' g'' xs ys zs e d = rw append_assoc (put_then g g' g'' xs (ys ++ zs) e d)

-- one element more
pub take_one : (l : List ℕ) (i : ℕ) → i < length l → take (i + 1) l ≡ take i l ++ (get_or l i 0 ∷ [])
take_one l i h = rw add-one (take-suc l i 0 h)

flat_map-append : (f : ℕ → List ℕ) (xs ys : List ℕ) → flat_map f (xs ++ ys) ≡ flat_map f xs ++ flat_map f ys
unfolding flat_map
flat_map-append f [] ys = refl
flat_map-append f (x ∷ xs) ys = ap (λ l. f x ++ l) (flat_map-append f xs ys) ∙ sym (append_assoc (f x) (flat_map f xs) (flat_map f ys))

-- and what f makes of it
pub each_one : (f : ℕ → List ℕ) (l : List ℕ) (i : ℕ) → i < length l → flat_map f (take (i + 1) l) ≡ flat_map f (take i l) ++ f (get_or l i 0)
unfolding flat_map
each_one f l i h =
    let x = get_or l i 0 in
    ap (flat_map f) (take_one l i h) ∙ flat_map-append f (take i l) (x ∷ []) ∙ ap (λ u. flat_map f (take i l) ++ u) (append-nil (f x))

pub each_none : (f : ℕ → List ℕ) → flat_map f [] ≡ []
unfolding flat_map
each_none f = refl

-- what is gathered part by part, and element by element
pub ruleset puts = (put_none, put_single, put_cons, put-append, take_one, each_none, each_one)

-- Text that finds room: it lies in the buffer whole, and nothing was written

room-nothing : (l : List ℕ) (held : ℕ) → gathered l held ≡ gathered (laid l held []) (held + 0)
unfolding octets
room-nothing l held = rw (laid_none l held 0, add-zero)

room-one : (l : List ℕ) (held x : ℕ) → held < length l → put_one (gathered l held) x ≡ gathered (laid l held (x ∷ [])) (held + 1)
unfolding put_one
room-one l held x h = rw (laid_one l held x h, lt-ltb held (length l) h, lt-ltb held (length l) h)

put-room : (l : List ℕ) (held : ℕ) (xs : List ℕ) → held + length xs ≤ length l
    → put_all (gathered l held) xs ≡ gathered (laid l held xs) (held + length xs)
unfolding put_all
put-room l held [] h = room-nothing l held
put-room l held (x ∷ xs) h =
    let l' = laid l held (x ∷ []) in
    let long : length l' ≡ length l = length-laid l held (x ∷ []) (omega arith) in
    let sum : held + 1 + length xs ≡ held + suc (length xs) = omega arith in
    ap (λ g. put_all g xs) (room-one l held x (omega arith)) ∙ put-room l' (held + 1) xs (omega arith)
    ∙ (λ i. gathered (laid-laid l held (x ∷ []) xs (omega arith) i) (sum i))

-- gathered from the start, it is what the buffer begins with
pub put_whole : (l l' : List ℕ) (n : ℕ) (xs : List ℕ) → length xs ≤ length l → gathered l' n ≡ put_all (gathered l 0) xs
    → (take n l' ≡ xs) × IsPrefixLen n l'
unfolding laid
put_whole l l' n xs h e =
    let is = e ∙ put-room l 0 xs (omega arith) in
    let lies : l' ≡ laid l 0 xs = ap (λ g. g.octets) is in
    let many : n ≡ length xs = ap (λ g. g.held) is ∙ zero-add (length xs) in
    let same : take n l' ≡ xs = ap (take n) lies ∙ take_at xs (drop (0 + length xs) l) n (sym many) in
    (same, (omega (arith, ap length lies, length-laid l 0 xs (omega arith)), many ∙ ap length (sym same)))

-- as in a new text
pub put_new : (n : ℕ) (new g : Gathered) (xs : List ℕ) → new ≡ gathered (replicate n 0) 0 → length xs ≤ n → g ≡ put_all new xs
    → (take g.held g.octets ≡ xs) × IsPrefixLen g.held g.octets
put_new n new g xs s h e =
    let l : List ℕ = replicate n 0 in
    let long : length l ≡ n = length-replicate n 0 in
    put_whole l g.octets g.held xs (omega arith) (e ∙ ap (λ t. put_all t xs) s)
