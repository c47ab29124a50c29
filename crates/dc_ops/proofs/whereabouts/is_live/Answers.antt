use Rattle.dc_ops.proofs.Climbing.{file_no_dir, link_no_dir, live_kind, none_no_dir, other_kind}
use Rattle.dc_ops.proofs.whereabouts.is_live.Goals as goal
