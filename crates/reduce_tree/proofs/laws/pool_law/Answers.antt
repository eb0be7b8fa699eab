use Rattle.reduce_tree.proofs.Pools.{fits_grown, fits_cut}
use Rattle.reduce_tree.proofs.laws.pool_law.Goals as goal

pub returns-clause-grown : goal.returns-clause-grown
returns-clause-grown c = fits_grown

pub returns-clause-cut : goal.returns-clause-cut
returns-clause-cut c = fits_cut
