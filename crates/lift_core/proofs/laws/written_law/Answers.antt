-- An ascending list with exactly the members of a set is unique.
use Rattle.std.specs.Prelude.{IsTrue}
use Rattle.int_vector.specs.Vectors.{lex_cmp, negated, leads_negative}
use Rattle.lift_core.specs.Columns.{Every}
use Rattle.lift_core.specs.Inside.Written.{IsWrittenOf}
use Rattle.lift_core.proofs.Lists.{one_list}
use Rattle.lift_core.proofs.Orders.{lex_cmp_total}
use Rattle.lift_core.proofs.Written.{one_leads_negative}
use Rattle.lift_core.proofs.laws.written_law.Goals as goal

pub returns-clause-wanted : goal.returns-clause-wanted
returns-clause-wanted c = λ S n kind first second p q. one_list lex_cmp lex_cmp_total (IsWrittenOf S n kind) first second p q

pub returns-clause-graver : goal.returns-clause-graver
returns-clause-graver c = λ S n first second p q. one_list lex_cmp lex_cmp_total (λ x. IsWrittenOf S n Every x × (IsWrittenOf S n Every (negated x) → IsTrue (leads_negative x) → ⊥)) first second p q

pub returns-clause-leads : goal.returns-clause-leads
returns-clause-leads c = one_leads_negative
