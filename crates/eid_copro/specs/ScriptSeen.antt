-- What the scripted coprocessor shows, and the answers that it was given.
use Rattle.std.specs.Prelude.{List}
use Rattle.eid_copro.specs.Script.{script_answer}
use Rattle.eid_copro.specs.Seen.{CoproSeen}
use Rattle.eid_copro.specs.Told.{Listed}
use Rattle.eid_copro.specs.declared.ask.Answer.{Answer}
use Rattle.eid_copro.specs.declared.ask.Question.{Question}
use Rattle.eid_copro.specs.declared.script.ScriptCoprocessor.{ScriptCoprocessor}

abbrev pub script_list : ScriptCoprocessor → List Answer
script_list script = script.answers.items

abbrev pub script_seen : ScriptCoprocessor → CoproSeen
script_seen script = record {
  log = script.log.asks.items;
  spare = script.log.spare;
  faults = script.faults;
  told = Listed (script_list script);
}

-- what it answers next, if it is asked that
abbrev pub script_next : ScriptCoprocessor → Question → Answer
script_next script question = script_answer (script_list script) (script_seen script).log question
