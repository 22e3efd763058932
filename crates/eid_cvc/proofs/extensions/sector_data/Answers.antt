use Rattle.std.proofs.Common.{List, ℕ, Option, sym, subst}
use Rattle.std.specs.Option.{option_copied}
use Rattle.eid_cvc.specs.Fronts.{front_view}
use Rattle.eid_cvc.proofs.ExtensionFacts.{IsWalked, walked_all, walked_more, no_more, no_identifier, shorter_front}
use Rattle.eid_cvc.proofs.extensions.sector_data.Goals as goal

pub returns-in_default : goal.returns-in_default
returns-in_default c =
    no_more c.args.value.now c.loop-rest.rest.now (option_copied c.loop-rest.found) c.loop-rest.invariant (sym c.loop-rest-test.ensures)
    (sym c.in_default.ensures)

pub returns-in_default-front : goal.returns-in_default-front
returns-in_default-front c =
    no_identifier c.args.value.now c.loop-rest.rest.now (option_copied c.loop-rest.found) (front_view c.in-Some.extension) c.loop-rest.invariant
    (sym c.loop-rest-test.ensures) c.in-Some.ensures c.in_default-front.ensures

pub loop-rest-smaller : goal.loop-rest-smaller
loop-rest-smaller c = shorter_front c.loop-rest.rest.now (front_view c.in-Some.extension) c.in-Some.ensures

pub loop-rest-preserved : goal.loop-rest-preserved
loop-rest-preserved c =
    subst (λ (found : Option (List ℕ)). IsWalked c.args.value.now c.in-Some.extension.rest.now found) (sym c.first_sector-found.ensures)
    (walked_more c.args.value.now c.loop-rest.rest.now (option_copied c.loop-rest.found) (front_view c.in-Some.extension)
    (front_view c.in-Some-front.identifier)
    c.loop-rest.invariant c.in-Some.ensures c.in-Some-front.ensures)

pub returns : goal.returns
returns c = walked_all c.args.value.now c.loop-rest.rest.now (option_copied c.loop-rest.found) c.loop-rest.invariant (sym c.loop-rest-test.ensures)
