-- What the definitions compute to at small systems of known text.
use Rattle.std.proofs.Common.{◌≡◌, ℕ, Option, length, List, [], ◌∷◌, refl, Some, None, Ok, Err}
use Rattle.std.specs.Prelude.{ℤ, pos, negsuc}
use Rattle.lift_core.specs.declared.Tool.TheVariants.{Graver, Hilbert, Zsolve}
use Rattle.mat_files.specs.declared.relations.Rel.TheVariants.{Most, Least}
use Rattle.system_shape.specs.declared.files.Input.{Input}
use Rattle.system_shape.specs.declared.faults.ShapeFault.TheVariants.{SignNeeded, SignShape, BadSign, Free, RhsNotHere, CapShape}
use Rattle.system_shape.specs.Answers.{shaped}
use Rattle.system_shape.specs.Shape.{shape_fault, user_system}
use Rattle.system_shape.specs.Problem.{full_vector}

-- x - y ≤ 2, -3 x + y ≤ 1 and x + y ≥ 1 for x, y ≥ 0: a slack for each row, then the column of x0
polygon : Input
polygon = record {
  mat = record { rows = 3; cols = 2; cells = pos 1 ∷ negsuc 0 ∷ negsuc 2 ∷ pos 1 ∷ pos 1 ∷ pos 1 ∷ [] };
  sign = Some (record { rows = 1; cols = 2; cells = pos 1 ∷ pos 1 ∷ [] });
  rel = Some (record { rows = 1; cols = 3; cells = Most ∷ Most ∷ Least ∷ [] });
  rhs = Some (record { rows = 1; cols = 3; cells = pos 2 ∷ pos 1 ∷ pos 1 ∷ [] });
  cap = None;
}

polygon_shaped : shaped Zsolve polygon ≡ Ok (record {
  tool = Zsolve;
  n = 2;
  equations = record {
    signs = pos 1 ∷ pos 1 ∷ pos 1 ∷ pos 1 ∷ pos 1 ∷ pos 1 ∷ [];
    caps = None ∷ None ∷ None ∷ None ∷ None ∷ Some 1 ∷ [];
    rows = (pos 1 ∷ negsuc 0 ∷ pos 1 ∷ pos 0 ∷ pos 0 ∷ negsuc 1 ∷ [])
        ∷ (negsuc 2 ∷ pos 1 ∷ pos 0 ∷ pos 1 ∷ pos 0 ∷ negsuc 0 ∷ [])
        ∷ (pos 1 ∷ pos 1 ∷ pos 0 ∷ pos 0 ∷ negsuc 0 ∷ negsuc 0 ∷ [])
        ∷ [];
  };
})
unfolding polygon
polygon_shaped = refl

-- its point (1, 1): 2 below the first bound, 3 below the second, 1 above the third
polygon_point : full_vector (user_system Zsolve polygon) (pos 1) (pos 1 ∷ pos 1 ∷ []) ≡ pos 1 ∷ pos 1 ∷ pos 2 ∷ pos 3 ∷ pos 1 ∷ pos 1 ∷ []
unfolding polygon
polygon_point = refl

-- 2 x = 1
half : Input
half = record {
  mat = record { rows = 1; cols = 1; cells = pos 2 ∷ [] };
  sign = Some (record { rows = 1; cols = 1; cells = pos 1 ∷ [] });
  rel = None;
  rhs = Some (record { rows = 1; cols = 1; cells = pos 1 ∷ [] });
  cap = None;
}

half_shaped : shaped Zsolve half
    ≡ Ok (record { tool = Zsolve; n = 1; equations = record { signs = pos 1 ∷ pos 1 ∷ []; caps = None ∷ Some 1 ∷ []; rows = (pos 2 ∷ negsuc 0 ∷ []) ∷ [] } })
unfolding half
half_shaped = refl

-- x - y ≤ 0 for hilbert
below_diagonal : Input
below_diagonal = record {
  mat = record { rows = 1; cols = 2; cells = pos 1 ∷ negsuc 0 ∷ [] };
  sign = None;
  rel = Some (record { rows = 1; cols = 1; cells = Most ∷ [] });
  rhs = None;
  cap = None;
}

below_diagonal_shaped : shaped Hilbert below_diagonal
    ≡ Ok (record { tool = Hilbert; n = 2; equations = record { signs = pos 1 ∷ pos 1 ∷ pos 1 ∷ []; caps = None ∷ None ∷ None ∷ []; rows = (pos 1 ∷ negsuc 0 ∷ pos 1 ∷ []) ∷ [] } })
unfolding below_diagonal
below_diagonal_shaped = refl

-- without a file of signs the columns of graver are free, and zsolve refuses
free_columns : shaped Graver below_diagonal
    ≡ Ok (record { tool = Graver; n = 2; equations = record { signs = pos 2 ∷ pos 2 ∷ pos 1 ∷ []; caps = None ∷ None ∷ None ∷ []; rows = (pos 1 ∷ negsuc 0 ∷ pos 1 ∷ []) ∷ [] } })
unfolding below_diagonal
free_columns = refl

signs_needed : shaped Zsolve below_diagonal ≡ Err SignNeeded
unfolding below_diagonal
signs_needed = refl

-- the equation x = y with these signs, and its first fault
fault_at_signs : List ℤ → Input
fault_at_signs signs = record {
  mat = record { rows = 1; cols = 2; cells = pos 1 ∷ negsuc 0 ∷ [] };
  sign = Some (record { rows = 1; cols = 2; cells = signs });
  rel = None;
  rhs = None;
  cap = None;
}

free_at_two : shape_fault Zsolve (fault_at_signs (pos 1 ∷ pos 0 ∷ [])) ≡ Some (Free 2)
unfolding fault_at_signs
free_at_two = refl

bad_at_two : shape_fault Hilbert (fault_at_signs (pos 1 ∷ pos 3 ∷ [])) ≡ Some (BadSign 2 (pos 3))
unfolding fault_at_signs
bad_at_two = refl

-- a file of signs of another shape, and right sides for hilbert
one_sign : Input
one_sign = record {
  mat = record { rows = 1; cols = 2; cells = pos 1 ∷ negsuc 0 ∷ [] };
  sign = Some (record { rows = 1; cols = 1; cells = pos 0 ∷ [] });
  rel = None;
  rhs = None;
  cap = None;
}

shape_first : shape_fault Zsolve one_sign ≡ Some (SignShape 1 1)
unfolding one_sign
shape_first = refl

with_rights : Input
with_rights = record {
  mat = record { rows = 1; cols = 2; cells = pos 1 ∷ negsuc 0 ∷ [] };
  sign = None;
  rel = None;
  rhs = Some (record { rows = 1; cols = 1; cells = pos 0 ∷ [] });
  cap = None;
}

rights_not_here : shape_fault Hilbert with_rights ≡ Some RhsNotHere
unfolding with_rights
rights_not_here = refl

-- x - y ≤ 0 for hilbert with a cap of 3 on y: the slack has none
boxed : List (Option ℕ) → Input
boxed caps = record {
  mat = record { rows = 1; cols = 2; cells = pos 1 ∷ negsuc 0 ∷ [] };
  sign = None;
  rel = Some (record { rows = 1; cols = 1; cells = Most ∷ [] });
  rhs = None;
  cap = Some (record { rows = 1; cols = length caps; cells = caps });
}

boxed_shaped : shaped Hilbert (boxed (None ∷ Some 3 ∷ []))
    ≡ Ok (record { tool = Hilbert; n = 2; equations = record { signs = pos 1 ∷ pos 1 ∷ pos 1 ∷ []; caps = None ∷ Some 3 ∷ None ∷ []; rows = (pos 1 ∷ negsuc 0 ∷ pos 1 ∷ []) ∷ [] } })
unfolding boxed
boxed_shaped = refl

one_cap_for_two : shape_fault Hilbert (boxed (Some 3 ∷ [])) ≡ Some (CapShape 1 1)
unfolding boxed
one_cap_for_two = refl
