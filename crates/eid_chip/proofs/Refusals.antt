-- What a refusal leaves, and how a step ends that is refused.
use Rattle.std.proofs.Common.{◌≡◌, Bool, true, false, Option, None, refl}
use Rattle.std.specs.Prelude.{option_map, if◌then◌else◌}
use Rattle.eid_sm.specs.Keys.{ChannelState}
use Rattle.eid_model.specs.Sessions.{fresh}
use Rattle.eid_chip.specs.Transitions.{state_refused, two_messages_later}
use Rattle.eid_chip.specs.declared.session.Session.{Session}
use Rattle.eid_chip.specs.States.{state}
use Rattle.eid_chip.specs.Transitions.{without_run}

-- a refusal that ends the session leaves a fresh one, any other takes the run
pub left_by : (ends : Bool) (old new : Session) (channel : Option ChannelState) → (ends ≡ true → state new None ≡ fresh) → (ends ≡ false → (ch : Option ChannelState) → state new ch ≡ without_run (state old ch)) → state new (if ends then None else option_map two_messages_later channel) ≡ (if ends then fresh else state_refused (state old channel))
left_by true old new channel is_fresh is_same = is_fresh refl
left_by false old new channel is_fresh is_same = is_same refl (option_map two_messages_later channel)
