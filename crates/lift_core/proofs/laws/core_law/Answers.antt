-- In a complete run each block of the norm is drawn once and booked once, so the book holds each number once; and the
-- blocks together hold all pairs, so the sums of the book are all sums.
use Rattle.lift_core.proofs.PureMachine.{each_number_once, each_once, each_contained_in_book, sums_of_all}
use Rattle.lift_core.proofs.laws.core_law.Goals as goal

pub returns-clause-number : goal.returns-clause-number
returns-clause-number c = each_number_once

pub returns-clause-once : goal.returns-clause-once
returns-clause-once c = each_once

pub returns-clause-sums : goal.returns-clause-sums
returns-clause-sums c = λ S listed e pairs numbered blocks passes events s enough r closed rows list.
    sums_of_all S listed e pairs numbered blocks enough s.book (each_contained_in_book blocks passes events s r closed) rows list
