-- `pass`: an item of fixed length by its room and its values, another by where its kind ends it. Assumes nothing.
use mathlib.Core.Path.{◌≡◌, sym, ◌∙◌}
use Prim.Native.Nat.{ℕ}
use native.Mathlib.Omega.{arith}
use Rattle.layouts.specs.declared.ends.Kind.{Kind}
use Rattle.layouts.proofs.KindEnds.{end-told}
use Rattle.items.proofs.Passed.{fixed-refused, fixed-at}
use Rattle.items.proofs.item.pass.Goals as goal

-- two kinds
repeated-fixed : {k : Kind} (m n : ℕ) → k ≡ Kind.Repeated m → k ≡ Kind.Fixed n → ⊥
repeated-fixed m n h e = let z : ◌≡◌ {A = ℕ} 0 1 = cc in omega arith

pub returns-then-window-at : goal.returns-then-window-at
returns-then-window-at c =
    let a = c.args in
    end-told (fixed-refused a.window.now.octets.now a.window.now.len a.window.now.small a.field.0 a.at a.field.1 c.requires.1 _ c.in-Fixed.is c.if-window-at.true)

pub judged-requires : goal.judged-requires
judged-requires c =
    let is = sym c.requires.1 ∙ c.in-Repeated.is in
    (λ n e. repeated-fixed _ n is e, rw is c.counted_end.ensures.0)

pub returns-then-first_fits : goal.returns-then-first_fits
returns-then-first_fits c =
    let a = c.args in
    end-told
    (rw c.if-first_fits.true at
    (fixed-at a.window.now.octets.now a.window.now.len a.window.now.small a.field.0 a.at a.field.1 c.requires.1 _ c.in-Fixed.is _ c.if-window-at.false c.first_fits.ensures))

pub returns-else-first_fits : goal.returns-else-first_fits
returns-else-first_fits c =
    let a = c.args in
    end-told
    (rw c.if-first_fits.false at
    (fixed-at a.window.now.octets.now a.window.now.len a.window.now.small a.field.0 a.at a.field.1 c.requires.1 _ c.in-Fixed.is _ c.if-window-at.false c.first_fits.ensures))
