use Rattle.std.proofs.Common.{◌≡◌, rules, arith, codes}
use Rattle.std.proofs.lemmas.Slice.Eq.{text_from_reads}
use Rattle.eid_copro.specs.Lines.{answer_in}
use Rattle.eid_copro.proofs.lines.read_answer.Goals as goal

pub returns-in-verify : goal.returns-in-verify
unfolding answer_in
returns-in-verify c =
    let is : c.args.word.now ≡ codes "verify" = text_from_reads c.args.word.now (codes "verify") (omega arith) (search rules) in
    rw is c.read_verdict.ensures

pub returns-in-challenge : goal.returns-in-challenge
unfolding answer_in
returns-in-challenge c =
    let is : c.args.word.now ≡ codes "challenge" = text_from_reads c.args.word.now (codes "challenge") (omega arith) (search rules) in
    rw is c.read_challenge.ensures
