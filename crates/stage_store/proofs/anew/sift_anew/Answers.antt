use Rattle.std.proofs.Common.{subst₂, refl}
use Rattle.stage_store.specs.Mirror.{AreCouples}
use Rattle.stage_store.proofs.anew.sift_anew.Goals as goal

pub sift_couples_anew-requires-clause-couples : goal.sift_couples_anew-requires-clause-couples
sift_couples_anew-requires-clause-couples c = subst₂ (AreCouples c.args.mirror.now) c.deref.ensures.value c.deref-2.ensures.value (c.if-are_couples.ensures refl)
