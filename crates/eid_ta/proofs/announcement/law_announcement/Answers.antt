use Rattle.eid_ta.proofs.AnnouncementFacts.{announcement_in-exact}
use Rattle.eid_ta.proofs.announcement.law_announcement.Goals as goal

pub returns : goal.returns
returns c = announcement_in-exact
