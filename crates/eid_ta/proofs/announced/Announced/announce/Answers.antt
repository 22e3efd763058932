use Rattle.std.proofs.Common.{arith}
use Rattle.eid_ta.specs.AnnouncementIn.{announcement_in}
use Rattle.eid_ta.specs.View.{announcement_view}
use Rattle.eid_ta.proofs.AnnouncementFacts.{has_form, sent_within}
use Rattle.eid_ta.proofs.announced.Announced.announce.Goals as goal

pub begin-requires : goal.begin-requires
begin-requires c =
    let is = has_form (announcement_in c.args.body.now) (announcement_view c.in-Ok.announcement) c.in-Ok.ensures in
    omega (arith, c.requires, sent_within c.args.body.now (announcement_view c.in-Ok.announcement) is)
