-- What a coprocessor of either kind shows: what the one that it holds shows.
use Rattle.eid_copro.specs.Seen.{CoproSeen}
use Rattle.eid_copro.specs.ModelSeen.{model_seen}
use Rattle.eid_copro.specs.ScriptSeen.{script_seen}
use Rattle.eid_copro.specs.declared.any.AnyCopro.{AnyCopro}
use Rattle.eid_copro.specs.declared.any.AnyCopro.TheVariants.{Model, Script}

abbrev pub any_seen : AnyCopro → CoproSeen
any_seen (Model model) = model_seen model
any_seen (Script script) = script_seen script
