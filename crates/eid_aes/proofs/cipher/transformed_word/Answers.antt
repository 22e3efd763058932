use Rattle.std.proofs.Common.{◌≡◌, ◌-◌, ◌/◌, get_or, arith}
use Rattle.eid_aes.specs.Cipher.{word_at, power_of_x}
use Rattle.eid_aes.specs.declared.cipher.TheConstants.{RCON}
use Rattle.eid_aes.proofs.ScheduleFacts.{RCON_at, transformed_word_first}
use Rattle.eid_aes.proofs.cipher.transformed_word.Goals as goal

pub returns-then-i-words-eq0 : goal.returns-then-i-words-eq0
returns-then-i-words-eq0 c =
    let constant : get_or RCON (c.args.i / c.args.words - 1) 0 ≡ power_of_x (c.args.i / c.args.words - 1) = RCON_at _ (omega arith) in
    rw (transformed_word_first c.args.words c.args.i _ (word_at c.args.schedule.now (c.args.i - 1)) c.if-i-words-eq0.true constant) (cc (c.rotated_word.ensures))
