-- No command is read where none is spelled, or one whose body is too long.
use Rattle.std.proofs.Common.{◌≡◌, ◌<◌, ◌≤◌, ℕ, List, length, ap, refl, arith}
use Rattle.eid_apdu.specs.Command.{PlainCommand, Spells, plain_command}
use Rattle.eid_apdu.proofs.OneCommand.{spells_one}
use Rattle.eid_model.specs.Rules.{NoCommand}
use Rattle.eid_chip.proofs.incoming.read_plain.Goals as goal

-- bytes that spell a command whose body is too long spell none with a shorter one
too_long : (bytes : List ℕ) (c d : PlainCommand) → Spells bytes c → Spells bytes d → 2200 < length c.body → length d.body ≤ 2200 → ⊥
too_long bytes c d spelled other long short =
    let same : length c.body ≡ length d.body = ap (λ (x : PlainCommand). length x.body) (spells_one bytes c d spelled other) in
    omega arith

pub returns-in_default-clause-unread : goal.returns-in_default-clause-unread
returns-in_default-clause-unread c = record {
  incoming = NoCommand;
  reads = λ d spelled short. c.in_default.ensures.only d spelled;
  none = refl;
  fails = λ kept old. refl;
  by_a_rule = refl;
}

pub returns-then-c-gt-MAX_BODY-clause-unread : goal.returns-then-c-gt-MAX_BODY-clause-unread
returns-then-c-gt-MAX_BODY-clause-unread c = record {
  incoming = NoCommand;
  reads = λ d spelled short. too_long c.args.bytes.now (plain_command c.in-Ok.c) d c.in-Ok.ensures.found spelled c.if-c-gt-MAX_BODY.true short;
  none = refl;
  fails = λ kept old. refl;
  by_a_rule = refl;
}
