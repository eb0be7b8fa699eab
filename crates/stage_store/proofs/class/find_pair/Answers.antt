-- The classes before the loop's one have p less the rest of pairs. In the class where the rest falls, the rest is split
-- by the number of second rows into the place of the first row and that of the second; and it does fall in one, since p
-- is below the sum of all.
use Rattle.std.proofs.Common.{ℕ, ◌+◌, ◌-◌, ◌*◌, ◌/◌, ◌%◌, ◌≤◌, ◌<◌, length, arith, get_or, ap, ap₂, sym, ◌∙◌, ◌≡◌, [], take}
use Rattle.std.specs.Prelude.{List}
use Rattle.std.specs.List.{sum_by}
use Rattle.std.proofs.lemmas.List.Sums.{sum_by_more_le}
use Rattle.std.proofs.Math.Nat.{mod-lt}
use Rattle.stage_store.specs.Classes.{class_norm, ClassValue, ids_at, ids_of, part_size}
use Rattle.stage_store.proofs.Classes.{class_at, class_ids}
use Rattle.stage_store.proofs.Pairs.{pair_at, ids_of-length, all_taken, some_size, whole}
use Rattle.stage_store.proofs.class.find_pair.Goals as goal

abbrev item : ClassValue
item = record { norm = 0; ids = [] }

pub overflow_mul-part : goal.overflow_mul-part
overflow_mul-part c =
    let at : c.c-item.result ≡ get_or c.args.plus.now c.loop-c.c-index item = class_at c.args.plus.now c.loop-c.c-index c.c-item.result c.loop-c-test.true c.c-item.is in
    let more : sum_by (λ x. part_size c.args.minus.now c.args.e x) (take c.loop-c.c-index c.args.plus.now) + part_size c.args.minus.now c.args.e (get_or c.args.plus.now c.loop-c.c-index item) ≤ sum_by (λ x. part_size c.args.minus.now c.args.e x) c.args.plus.now = sum_by_more_le (λ x. part_size c.args.minus.now c.args.e x) c.args.plus.now c.loop-c.c-index item c.loop-c-test.true in
    let s : length c.ids_of_norm-seconds.result.now ≡ length (ids_at c.args.minus.now (c.args.e - c.c-item.result.norm)) = ap length (c.ids_of_norm-seconds.ensures ∙ ap (ids_at c.args.minus.now) (c.saturating_sub.ensures ∙ ap (λ n. c.args.e - n) c.norm.ensures)) in
    let part : length c.ids.result.now * length c.ids_of_norm-seconds.result.now ≡ part_size c.args.minus.now c.args.e (get_or c.args.plus.now c.loop-c.c-index item) =
    ap₂ (λ m n. m * n) (ap length c.ids.ensures) s ∙ ap (part_size c.args.minus.now c.args.e) at in
    omega (arith, more, part, c.requires.small)

pub returns-then-rest-part : goal.returns-then-rest-part
returns-then-rest-part c =
    let it : ClassValue = get_or c.args.plus.now c.loop-c.c-index item in
    let js : List ℕ = c.ids_of_norm-seconds.result.now in
    let at : c.c-item.result ≡ get_or c.args.plus.now c.loop-c.c-index item = class_at c.args.plus.now c.loop-c.c-index c.c-item.result c.loop-c-test.true c.c-item.is in
    let s : c.ids_of_norm-seconds.result.now ≡ ids_at c.args.minus.now (c.args.e - (get_or c.args.plus.now c.loop-c.c-index item).norm) = c.ids_of_norm-seconds.ensures ∙ ap (ids_at c.args.minus.now) (c.saturating_sub.ensures ∙ ap (λ n. c.args.e - n) (c.norm.ensures ∙ ap class_norm at)) in
    let part : length c.ids.result.now * length c.ids_of_norm-seconds.result.now ≡ part_size c.args.minus.now c.args.e (get_or c.args.plus.now c.loop-c.c-index item) = ap₂ (λ m n. m * n) (ap length (c.ids.ensures ∙ ap class_ids at)) (ap length s) in
    let some : 0 < length c.ids_of_norm-seconds.result.now = some_size c.loop-c.rest (length c.ids.result.now) (length c.ids_of_norm-seconds.result.now) c.if-rest-part.true in
    let is : c.loop-c.rest ≡ (c.loop-c.rest / length c.ids_of_norm-seconds.result.now) * length c.ids_of_norm-seconds.result.now + c.loop-c.rest % length c.ids_of_norm-seconds.result.now = whole c.loop-c.rest (length c.ids_of_norm-seconds.result.now) in
    let small : c.loop-c.rest % length c.ids_of_norm-seconds.result.now < length c.ids_of_norm-seconds.result.now = mod-lt c.loop-c.rest some in
    ap₂ (λ (i j : ℕ). (i, j))
    (ap (λ (xs : List ℕ). get_or xs (c.loop-c.rest / length c.ids_of_norm-seconds.result.now) 0) (c.ids-then-rest-part.ensures ∙ ap class_ids at))
    (ap (λ (xs : List ℕ). get_or xs (c.loop-c.rest % length c.ids_of_norm-seconds.result.now) 0) s)
    ∙ sym (pair_at c.args.plus.now c.args.minus.now c.args.e c.loop-c.c-index c.loop-c.rest (c.loop-c.rest / length c.ids_of_norm-seconds.result.now) (c.loop-c.rest % length c.ids_of_norm-seconds.result.now) c.loop-c-test.true
    (omega (arith, part, c.if-rest-part.true)) (is ∙ ap (λ (xs : List ℕ). (c.loop-c.rest / length c.ids_of_norm-seconds.result.now) * length xs + c.loop-c.rest % length c.ids_of_norm-seconds.result.now) s) (omega (arith, small, ap length s)))
    ∙ ap (λ m. get_or (ids_of c.args.plus.now c.args.minus.now c.args.e) m (0, 0)) (sym c.loop-c.invariant)

pub unreachable-requires : goal.unreachable-requires
unreachable-requires c =
    omega (arith, c.loop-c.invariant, c.requires.inside, ids_of-length c.args.plus.now c.args.minus.now c.args.e, all_taken (part_size c.args.minus.now c.args.e) c.args.plus.now c.loop-c.c-index c.loop-c-test.false)
