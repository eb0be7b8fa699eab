-- What is written of the linear system is what the user asks for, member by member.
use Rattle.std.specs.Prelude.{IsTrue}
use Rattle.lift_core.specs.Columns.{Every}
use Rattle.lift_core.specs.Inside.Written.{IsWrittenOf}
use Rattle.int_vector.specs.Vectors.{negated, leads_negative}
use Rattle.system_shape.specs.Slacks.{linear_system}
use Rattle.system_shape.specs.Problem.{IsMinimalOfKind}
use Rattle.system_shape.proofs.Solutions.{written, same_list, same_pairs}
use Rattle.system_shape.proofs.laws.user_law.Goals as goal

pub returns-clause-written : goal.returns-clause-written
returns-clause-written c = λ U n kind x well e k. written U well n kind x e k

pub returns-clause-wanted : goal.returns-clause-wanted
returns-clause-wanted c = λ U n kind rows well e k. same_list (IsWrittenOf (linear_system U) n kind) (IsMinimalOfKind U kind) rows (λ x. written U well n kind x e k)

pub returns-clause-graver : goal.returns-clause-graver
returns-clause-graver c = λ U n rows well e k.
    same_list (λ x. IsWrittenOf (linear_system U) n Every x × (IsWrittenOf (linear_system U) n Every (negated x) → IsTrue (leads_negative x) → ⊥))
    (λ x. IsMinimalOfKind U Every x × (IsMinimalOfKind U Every (negated x) → IsTrue (leads_negative x) → ⊥)) rows
    (λ x. same_pairs (IsWrittenOf (linear_system U) n Every) (IsMinimalOfKind U Every) x (negated x) (IsTrue (leads_negative x) → ⊥) (written U well n Every x e k) (written U well n Every (negated x) e k))
