-- Each clause is a lemma on selections.
use Rattle.solution_files.specs.Outputs.{kind_of}
use Rattle.solution_files.proofs.WantedLists.{wanted_plain, wanted_graver}
use Rattle.solution_files.proofs.GridText.{text_of-rows}
use Rattle.solution_files.proofs.laws.selection_law.Goals as goal

pub returns-clause-wanted : goal.returns-clause-wanted
returns-clause-wanted c = λ system finished kind rows other all h. wanted_plain system.equations system.n finished all system.tool (kind_of kind) rows other h

pub returns-clause-graver : goal.returns-clause-graver
returns-clause-graver c = λ system finished rows is all h. wanted_graver system.equations system.n finished all system.tool rows is h

pub returns-clause-text : goal.returns-clause-text
returns-clause-text c = text_of-rows
