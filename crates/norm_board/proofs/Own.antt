-- A pass's fields beside its value, for answers.
use Rattle.std.proofs.Common.{◌≡◌, ◌∙◌, sym, ap}
use Rattle.norm_board.specs.Seen.{PassValue, BoardValue, Belongs}

-- the table of the fields, and their plan, from what the clause says of the values
pub same_table : (p q : PassValue) (b c : BoardValue) → p ≡ q → b ≡ c → Belongs c q → p.table ≡ b.table
same_table p q b c e f o = ap (λ (v : PassValue). v.table) e ∙ (o.table ∙ sym (ap (λ (v : BoardValue). v.table) f))

pub same_plan : (p q : PassValue) (b c : BoardValue) → p ≡ q → b ≡ c → Belongs c q → p.view.plan ≡ b.plan
same_plan p q b c e f o = ap (λ (v : PassValue). v.view.plan) e ∙ (o.plan ∙ sym (ap (λ (v : BoardValue). v.plan) f))
