-- The law of the grammar.
use Rattle.std.proofs.Common.{refl}
use Rattle.eid_script.specs.Grammar.{IsNote, Spells}
use Rattle.eid_script.specs.Scripts.{says}
use Rattle.eid_text.proofs.Readings.{reads_exactly, names_exactly}
use Rattle.eid_script.proofs.Spelled.{agrees}
use Rattle.eid_script.proofs.law.law_script_grammar.Goals as goal

pub returns : goal.returns
returns c = record {
  reads = reads_exactly says IsNote Spells agrees refl;
  names = names_exactly says IsNote Spells agrees;
}
