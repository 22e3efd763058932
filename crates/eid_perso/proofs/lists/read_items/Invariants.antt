use Rattle.std.proofs.Common.{◌≡◌, ◌++◌, option_map, drop, map}
use Rattle.toml.specs.View.{items_view}
use Rattle.eid_perso.specs.Forms.{each_item}
use Rattle.eid_perso.proofs.lists.read_items.Given as goal

-- what was read so far, and behind it what the other items give, is what all give
abbrev pub invariant-loop-item : goal.invariant-loop-item
invariant-loop-item g l =
    let gives = each_item (g.I.Item.gives l.form) in
    option_map (λ later. map g.I.Item.plain l.list.items ++ later) (gives (items_view (drop l.item-index l.items))) ≡ gives (items_view l.items)
