use Rattle.archive.proofs.Bounds.{height-power}
use Rattle.archive.proofs.offsets.height_of.Goals as goal

pub returns : goal.returns
returns c =
    let p = c.next_power_of_two.ensures in
    let g = c.ilog2.ensures in
    height-power c.args.documents c.next_power_of_two.result c.ilog2.result c.requires p.power p.lower_bound p.upper_bound g.power_le g.next_power_gt
