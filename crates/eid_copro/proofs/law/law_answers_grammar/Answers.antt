-- The law of the grammar.
use Rattle.std.proofs.Common.{refl}
use Rattle.eid_text.proofs.Readings.{reads_exactly, names_exactly}
use Rattle.eid_copro.specs.Grammar.{IsEmpty, SpellsAnswer}
use Rattle.eid_copro.specs.Lines.{says, answers_of}
use Rattle.eid_copro.proofs.Spelled.{agrees}
use Rattle.eid_copro.proofs.law.law_answers_grammar.Goals as goal

pub returns : goal.returns
unfolding answers_of
returns c = record {
  reads = reads_exactly says IsEmpty SpellsAnswer agrees refl;
  names = names_exactly says IsEmpty SpellsAnswer agrees;
}
