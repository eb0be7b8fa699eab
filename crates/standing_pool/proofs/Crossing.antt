-- What passes between the threads is true of the stage of whoever takes it: the lists at a place are the only ones.
use Rattle.std.proofs.Common.{◌≡◌, ℕ, ◌+◌, List, refl, subst}
use Rattle.std.specs.Prelude.{ℤ}
use Rattle.lift_core.specs.Lists.{IsListOf}
use Rattle.lift_core.specs.PairSums.{IsNewSum}
use Rattle.lift_core.specs.Stages.{IsNextNorm, norm_cmp}
use Rattle.lift_core.specs.Systems.{ToolSystem}
use Rattle.lift_core.specs.ToolSystems.{width}
use Rattle.lift_core.proofs.Unique.{one_listed, one_waiting}
use Rattle.row_pool.specs.Rows.{PoolValue}
use Rattle.stage_store.specs.Stage.{StageValue, IsDefined}
use Rattle.stage_store.specs.declared.stage.Closed.{Closed}
use Rattle.standing_pool.specs.Parts.{IsPartList}
use Rattle.standing_pool.specs.Standing.{IsPart, IsNews, NewsValue, closed_of}
use Rattle.standing_pool.specs.Inside.Gathered.{FitsPart, IsNextClosed}

-- ---- a part
pub part_of : (S : ToolSystem) (s : StageValue) (k d e i w : ℕ) (rows : PoolValue) → S ≡ s.system → k ≡ s.number → d ≡ s.norm → IsDefined s
    → rows.width ≡ width s.system.equations + 1 → IsPartList s.system.equations s.listed e i w rows.rows → IsPart S.equations k d e i w rows
part_of S s k d e i w rows same number norm h wide list = rw (same, number, norm) (record { listed = s.listed; is_listed = h.listed; width_is = wide; rows_are = list })

fits_here : (s : StageValue) (e i w : ℕ) (rows : PoolValue) → IsDefined s → IsPart s.system.equations s.number s.norm e i w rows → FitsPart s e i w rows
fits_here s e i w rows d h = record {
  width_is = h.width_is;
  rows_are = subst (λ (l : List (List ℤ)). IsPartList s.system.equations l e i w rows.rows) (one_listed s.system.equations s.number s.norm h.listed s.listed h.is_listed d.listed) h.rows_are;
}

pub part_fits : (S : ToolSystem) (s : StageValue) (k d n p q e i w : ℕ) (rows : PoolValue) → S ≡ s.system → k ≡ s.number → d ≡ s.norm → n ≡ e → p ≡ i → q ≡ w → IsDefined s
    → IsPart S.equations k d n p q rows → FitsPart s e i w rows
part_fits S s k d n p q e i w rows same number norm a b c defined h = fits_here s e i w rows defined (rw (same, number, norm, a, b, c) at h)

-- ---- a norm
pub news_of : (S : ToolSystem) (s : StageValue) (k d e : ℕ) (rows : PoolValue) (c : Closed) → S ≡ s.system → k ≡ s.number → d ≡ s.norm → e ≡ c.norm → rows.width ≡ c.rows.width → rows.rows ≡ c.rows.rows
    → IsDefined s → IsNextClosed s c → IsNews S.equations k d e rows
news_of S s k d e rows c same number norm is wide all h n = rw (same, number, norm, is) (record {
  listed = s.listed;
  waiting = s.waiting;
  is_listed = h.listed;
  is_waiting = h.waiting;
  next = n.next;
  small = n.small;
  width_is = rw wide n.closed.width_is;
  rows_are = rw all n.closed.sums;
})

news_here : (s : StageValue) (n : NewsValue) → IsDefined s → IsNews s.system.equations s.number s.norm n.norm n.rows → IsNextClosed s (closed_of n)
news_here s n d h =
    let list : h.listed ≡ s.listed = one_listed s.system.equations s.number s.norm h.listed s.listed h.is_listed d.listed in
    let wait : h.waiting ≡ s.waiting = one_waiting s.system.equations s.number s.norm h.waiting s.waiting h.is_waiting d.waiting in
    record {
      next = subst (λ (l : List (List ℤ)). IsNextNorm s.listed l s.norm n.norm) wait (subst (λ (l : List (List ℤ)). IsNextNorm l h.waiting s.norm n.norm) list h.next);
      small = h.small;
      closed = record {
        norm_is = refl;
        width_is = h.width_is;
        sums = subst (λ (l : List (List ℤ)). IsListOf norm_cmp (IsNewSum s.system.equations l n.norm) n.rows.rows) list h.rows_are;
      };
    }

pub news_fits : (S : ToolSystem) (s : StageValue) (k d : ℕ) (n : NewsValue) → S ≡ s.system → k ≡ s.number → d ≡ s.norm → IsDefined s
    → IsNews S.equations k d n.norm n.rows → IsNextClosed s (closed_of n)
news_fits S s k d n same number norm defined h = news_here s n defined (rw (same, number, norm) at h)
