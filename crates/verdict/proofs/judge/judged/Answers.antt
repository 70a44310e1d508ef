-- The first broken rule in the rules' order.
use Rattle.verdict.proofs.Saying.{says_precedence, says_hop, says_link}
use Rattle.verdict.proofs.judge.judged.Goals as goal

pub returns-in-Some : goal.returns-in-Some
returns-in-Some c = says_precedence c.requires c.in-Some.ensures

pub returns-in-Some-uneven : goal.returns-in-Some-uneven
returns-in-Some-uneven c = says_hop c.requires c.in_default.ensures c.in-Some-uneven.ensures

pub returns-in-Some-first_collision : goal.returns-in-Some-first_collision
returns-in-Some-first_collision c =
    says_link c.requires c.in_default.ensures c.in_default-uneven.ensures c.in_default-shared_cell.ensures c.in-Some-first_collision.ensures
