use Rattle.courses.proofs.Parts.{found_period}
use Rattle.courses.proofs.course.Course.releases.Goals as goal

pub own_releases-requires : goal.own_releases-requires
own_releases-requires c = found_period c.args.table.now c.args.j c.in-Some.task c.in-Some.ensures

pub other_releases-requires : goal.other_releases-requires
other_releases-requires c = found_period c.args.table.now c.args.j c.in-Some.task c.in-Some.ensures
