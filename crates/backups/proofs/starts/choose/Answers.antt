use Rattle.std.proofs.Common.{subst}
use Rattle.backups.specs.Inside.Contents.{IsContent}
use Rattle.backups.proofs.starts.choose.Goals as goal

pub returns-in-Accepted-clause-finds : goal.returns-in-Accepted-clause-finds
returns-in-Accepted-clause-finds c =
    λ S files a b. c.later_of.ensures S files (subst (λ x. IsContent S files.first x) c.in-Accepted.is a) b

pub returns-in-Faulty-clause-calm : goal.returns-in-Faulty-clause-calm
returns-in-Faulty-clause-calm c = c.second_or.ensures.calm
