use Rattle.std.proofs.Common.{◌≡◌, arith, ap, ◌∙◌}
use Rattle.eid_cmac.specs.Cmac.{doubled, first_subkey}
use Rattle.eid_cmac.proofs.ChainFacts.{mac_whole, mac_padded}
use Rattle.eid_cmac.proofs.mac.Absorbed.finish.Goals as goal
use Rattle.eid_cmac.proofs.mac.Absorbed.finish.Goals.{then-self-eq16, else-self-eq16}

pub returns : goal.returns
returns g c = λ m h.
    let first : c.doubled-first.result ≡ first_subkey c.args.key.now = c.doubled-first.ensures ∙ ap doubled c.encrypt.ensures in
    c.encrypt-2.ensures ∙ elim c.if-self-eq16.branch [
      | then-self-eq16 w ↦
          mac_whole c.args.key.now c.args.self.state c.if-self-eq16.state m c.doubled-first.result c.args.self.held h w.if-self-eq16.true first
          (w.state-is ∙ w.add.ensures)
      | else-self-eq16 w ↦
          mac_padded c.args.key.now c.args.self.state _ c.if-self-eq16.state m w.doubled.result c.args.self.held h (omega (arith, c.args.self.in_block, w.if-self-eq16.false)) (w.doubled.ensures ∙ ap doubled first) w.add-else-self-eq16.ensures
          (w.state-is ∙ w.add-else-self-eq16-2.ensures)
    ]
