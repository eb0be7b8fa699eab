-- A pass that gives the turn back.
use Rattle.std.proofs.Common.{◌≡◌, ◌∙◌, ◌∷◌, [], true, ap}
use Rattle.std.specs.Prelude.{Some}
use Rattle.atomic_table.specs.Table.{Me, rest}
use Rattle.norm_board.specs.Books.{BookValue}
use Rattle.norm_board.specs.Rule.{S, giving}
use Rattle.norm_board.specs.Inside.Fields.{hand}
use Rattle.norm_board.specs.declared.rule.View.{View}

-- after the exchange the pass has the book in hand, and nothing else
pub filled : (m m' : Me S View) (b c : BookValue) → m.1 ≡ hand true → m' ≡ (m.0, (0, Some c) ∷ rest m.1) → c ≡ b → m' ≡ (m.0, (0, Some b) ∷ [])
filled m m' b c h e same = e ∙ (λ i. (m.0, (0, Some (same i)) ∷ rest (h i)))

-- and after the swap it has nothing
pub handed : (m m' n : Me S View) (b c : BookValue) → m.1 ≡ hand true → m' ≡ (m.0, (0, Some c) ∷ rest m.1) → c ≡ b
    → ((d : BookValue) → m'.1 ≡ (0, Some d) ∷ [] → n ≡ (giving m'.0 d.blocks, [])) → n ≡ (giving m.0 b.blocks, [])
handed m m' n b c h e same f = let g = filled m m' b c h e same in f b (ap (λ (k : Me S View). k.1) g) ∙ ap (λ (k : Me S View). (giving k.0 b.blocks, [])) g
