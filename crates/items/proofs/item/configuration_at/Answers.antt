use mathlib.Core.Path.{◌∙◌}
use Rattle.items.proofs.Items.{configuration-read}
use Rattle.items.proofs.item.configuration_at.Goals as goal

pub returns : goal.returns
returns c =
    let a = c.args in
    c.configuration_of.ensures ∙ rw (c.extension_at.ensures, c.read-first.ensures.0, c.first_octets.ensures) (configuration-read a.s.now a.at)
