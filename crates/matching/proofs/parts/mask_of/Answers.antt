-- `mask_of` meets its contract: beyond the masks a term has no documents.
-- Assumes nothing.
use native.Mathlib.Omega.{arith}
use mathlib.Core.Path.{sym}
use lib.ListN.{get_or-eq_default}
use Rattle.matching.proofs.parts.mask_of.Goals as goal

pub returns-else-at-masks : goal.returns-else-at-masks
returns-else-at-masks c = sym (get_or-eq_default c.args.masks.now 0 (omega arith))
