-- What the outputs that are left still leave, all outputs leave from the start.
use Rattle.std.proofs.Common.{◌≡◌, ◌≤◌, drop, map, Option}
use Rattle.std.specs.Option.{option_map}
use Rattle.outside.specs.Files.{Files}
use Rattle.tool_top.specs.declared.ends.End.{End}
use Rattle.tool_top.specs.Outputs.{written_all}
use Rattle.tool_top.specs.Inside.Writing.{output_of, CutsTo}
use Rattle.tool_top.proofs.outputs.write_outputs.Given as goal

abbrev pub invariant-loop-output : goal.invariant-loop-output
invariant-loop-output g l = record {
  whole : option_map (written_all l.project (map output_of (drop l.output-index l.outputs.list.items))) (g.F.Folder.held l.folder)
      ≡ option_map (written_all l.project (map output_of l.outputs.list.items)) (g.F.Folder.held l.fn.folder);
  back : (new : Option Files) (e : End) → CutsTo l.project (map output_of (drop l.output-index l.outputs.list.items)) (g.F.Folder.held l.folder) new e
      → CutsTo l.project (map output_of l.outputs.list.items) (g.F.Folder.held l.fn.folder) new e;
  later : g.F.Folder.faults l.fn.folder ≤ g.F.Folder.faults l.folder;
}
