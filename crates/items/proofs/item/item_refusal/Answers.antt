-- `item_refusal` by the item's variant. Assumes nothing.
use mathlib.Core.Path.{sym, ap, ◌∙◌}
use mathlib.Core.Logic.{inl, inr}
use Rattle.layouts.specs.Layouts.{octet, format}
use Rattle.layouts.specs.Tables.{counter}
use Rattle.items.specs.Typed.{item_refusal}
use Rattle.items.proofs.Entries.{counter-free, octet-free}
use Rattle.items.proofs.Judged.{free-refusal, entry-size}
use Rattle.items.proofs.item.item_refusal.Goals as goal

pub returns-in-Statistics : goal.returns-in-Statistics
unfolding format
returns-in-Statistics c = c.place_refusal.ensures ∙ free-refusal c.args.source.now 0 _ counter c.in-Statistics.p counter-free (entry-size _ _ _ _ c.entry_octets-size.ensures c.requires c.in-Statistics.is) ∙ sym (ap (item_refusal c.args.source.now) c.in-Statistics.is)

pub returns-in-Expansion : goal.returns-in-Expansion
unfolding format
returns-in-Expansion c =
    c.place_refusal-in-Expansion.ensures
    ∙ elim c.in-Expansion.is [
      | inl is ↦ free-refusal c.args.source.now 1 _ octet c.in-Expansion.p octet-free (entry-size _ _ _ _ c.entry_octets-size.ensures c.requires is) ∙ sym (ap (item_refusal c.args.source.now) is)
      | inr is ↦ free-refusal c.args.source.now 1 _ octet c.in-Expansion.p octet-free (entry-size _ _ _ _ c.entry_octets-size.ensures c.requires is) ∙ sym (ap (item_refusal c.args.source.now) is)
    ]
