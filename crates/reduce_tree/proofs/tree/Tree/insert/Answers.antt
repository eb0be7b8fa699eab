-- The index keeps what it had when it makes a bucket; then the row goes to the end of its bucket and of what was filed.
use Rattle.std.proofs.Common.{◌≡◌, ◌<◌, ◌+◌, ◌++◌, ◌∷◌, [], List, arith, ap, sym, subst, refl, length, ◌∙◌}
use Rattle.std.specs.Vec.{with_item}
use Rattle.reduce_tree.specs.declared.tree.Filed.{Filed}
use Rattle.reduce_tree.specs.Items.{IsKeyOf}
use Rattle.reduce_tree.specs.Inside.Filing.{IsTree}
use Rattle.reduce_tree.proofs.Inserts.{tree_kept, tree_same, tree_filed, filed_stands, fits_more, bucket_few}
use Rattle.reduce_tree.proofs.tree.Tree.insert.Goals as goal

pub invariant_of-self : goal.invariant_of-self
invariant_of-self c = tree_kept c.self.inside.width c.self.inside.levels c.self.inside.filed.items c.self.inside.index c.bucket_for.new.self c.self.invariant c.bucket_for.ensures.kept

pub invariant_of-self-in_err-reserve : goal.invariant_of-self-in_err-reserve
invariant_of-self-in_err-reserve c =
    subst (λ (fs : List Filed). IsTree c.self.inside.width c.self.inside.levels fs c.bucket_for.new.self) (sym c.reserve.ensures.items)
    (tree_kept c.self.inside.width c.self.inside.levels c.self.inside.filed.items c.self.inside.index c.bucket_for.new.self c.self.invariant c.bucket_for.ensures.kept)

pub push-requires : goal.push-requires
push-requires c =
    let few : length c.self.inside.filed.items + 1 < 4294967296 = omega (arith, c.if-len.false, c.len.ensures, c.self.inside.filed.ok) in
    bucket_few c.self.inside.width c.self.inside.levels c.in_ok-bucket.bucket c.self.inside.filed.items c.bucket_for.new.self c.index_mut.result.now
    (tree_kept c.self.inside.width c.self.inside.levels c.self.inside.filed.items c.self.inside.index c.bucket_for.new.self c.self.invariant c.bucket_for.ensures.kept) c.in_ok-bucket.ensures.there few c.index_mut.ensures.value

pub invariant_of-self-in_err-push : goal.invariant_of-self-in_err-push
invariant_of-self-in_err-push c =
    subst (λ (fs : List Filed). IsTree c.self.inside.width c.self.inside.levels fs (record { first = c.bucket_for.new.self.first; second = c.bucket_for.new.self.second; third = c.bucket_for.new.self.third; buckets = with_item c.bucket_for.new.self.buckets c.in_ok-bucket.bucket c.push.new.self })) (sym c.reserve.ensures.items)
    (tree_same c.self.inside.width c.self.inside.levels c.in_ok-bucket.bucket c.self.inside.filed.items c.bucket_for.new.self (record { first = c.bucket_for.new.self.first; second = c.bucket_for.new.self.second; third = c.bucket_for.new.self.third; buckets = with_item c.bucket_for.new.self.buckets c.in_ok-bucket.bucket c.push.new.self }) c.index_mut.result.now c.push.new.self
    (record { first = refl; second = refl; third = refl; buckets = refl }) (tree_kept c.self.inside.width c.self.inside.levels c.self.inside.filed.items c.self.inside.index c.bucket_for.new.self c.self.invariant c.bucket_for.ensures.kept) c.in_ok-bucket.ensures.there c.index_mut.ensures.value c.in_err-push.ensures.err)

pub invariant_of-self-2 : goal.invariant_of-self-2
invariant_of-self-2 c =
    let few : length c.self.inside.filed.items + 1 < 4294967296 = omega (arith, c.if-len.false, c.len.ensures, c.self.inside.filed.ok) in
    let filed : c.push_reserved.new.self.items ≡ c.self.inside.filed.items ++ c.file-filed.result ∷ [] = c.push_reserved.ensures.items ∙ ap (λ (l : List Filed). l ++ c.file-filed.result ∷ []) c.reserve.ensures.items in
    tree_filed c.self.inside.width c.self.inside.levels c.in_ok-bucket.bucket c.self.inside.filed.items c.push_reserved.new.self.items c.file-filed.result c.key_of-key.result c.bucket_for.new.self (record { first = c.bucket_for.new.self.first; second = c.bucket_for.new.self.second; third = c.bucket_for.new.self.third; buckets = with_item c.bucket_for.new.self.buckets c.in_ok-bucket.bucket c.push.new.self }) c.index_mut.result.now c.push.new.self
    (record { first = refl; second = refl; third = refl; buckets = refl }) (tree_kept c.self.inside.width c.self.inside.levels c.self.inside.filed.items c.self.inside.index c.bucket_for.new.self c.self.invariant c.bucket_for.ensures.kept) c.in_ok-bucket.ensures.there c.in_ok-bucket.ensures.leads c.file-filed.ensures.bucket c.file-filed.ensures.key filed few c.index_mut.ensures.value c.in_ok-push.ensures.ok

pub returns-clause-fits : goal.returns-clause-fits
returns-clause-fits c =
    let filed : c.push_reserved.new.self.items ≡ c.self.inside.filed.items ++ c.file-filed.result ∷ [] = c.push_reserved.ensures.items ∙ ap (λ (l : List Filed). l ++ c.file-filed.result ∷ []) c.reserve.ensures.items in
    fits_more c.args.self.now c.self.inside.width c.self.inside.levels c.self.inside.filed.items c.push_reserved.new.self.items c.file-filed.result c.args.pool.now c.self.view_is c.requires.fits filed
    (filed_stands c.self.inside.levels c.args.id.0 c.args.pool.now.rows c.row-row.result.now c.file-filed.result c.key_of-key.result c.row-row.ensures.row c.requires.place c.file-filed.ensures.place c.file-filed.ensures.key
    (subst (λ b. IsKeyOf c.row-row.result.now b c.key_of-key.result) (sym c.file-filed.ensures.bits) c.key_of-key.ensures.key) c.file-filed.ensures.size (c.file-filed.ensures.bits ∙ c.signature-bits.ensures))
