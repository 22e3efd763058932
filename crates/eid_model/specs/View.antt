-- The moments of the code as plain ones.
use Rattle.std.specs.Prelude.{option_map}
use Rattle.eid_apdu.specs.Command.{PlainCommand, plain_command}
use Rattle.eid_apdu.specs.Answer.{plain_reply}
use Rattle.eid_model.specs.declared.moment.Input.{Input}
use Rattle.eid_model.specs.declared.moment.Input.TheVariants.{On, Off, Apdu}
use Rattle.eid_model.specs.declared.moment.InputRef.{InputRef}
use Rattle.eid_model.specs.declared.moment.InputRef.TheVariants as refs
use Rattle.eid_model.specs.declared.moment.Plain.{Plain}
use Rattle.eid_model.specs.declared.moment.Moment.{Moment}
use Rattle.eid_model.specs.declared.moment.MomentRef.{MomentRef}
use Rattle.eid_model.specs.Moments.{Event, PoweredOn, PoweredOff, Received, PlainMoment}

abbrev pub plain : Plain → PlainCommand
plain p = record { cla = p.cla; ins = p.ins; p1 = p.p1; p2 = p.p2; body = p.body.items; ne = p.ne }

abbrev pub event : Input → Event
event (On found) = PoweredOn found
event Off = PoweredOff
event (Apdu bytes) = Received bytes.items

abbrev pub moment : Moment → PlainMoment
moment m = record {
  input = event m.input;
  plain = option_map plain m.plain;
  asks = m.asks.items;
  finished = m.finished;
  rule = m.rule.0;
  answer = option_map plain_reply m.answer;
  sent = option_map (λ bytes. bytes.items) m.sent;
}

-- and those over bytes that stand elsewhere
abbrev pub event_ref : InputRef → Event
event_ref (refs.On found) = PoweredOn found
event_ref refs.Off = PoweredOff
event_ref (refs.Apdu bytes) = Received bytes.now

abbrev pub moment_ref : MomentRef → PlainMoment
moment_ref m = record {
  input = event_ref m.input;
  plain = option_map plain_command m.plain;
  asks = m.asks.now;
  finished = m.finished;
  rule = m.rule.0;
  answer = option_map (λ reply. plain_reply reply.now) m.answer;
  sent = option_map (λ bytes. bytes.now) m.sent;
}
