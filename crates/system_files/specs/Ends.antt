-- How the end of a lower layer is answered.
use Rattle.outside.specs.declared.ends.ReadEnd.{ReadEnd}
use Rattle.outside.specs.declared.ends.ReadEnd.TheVariants as read
use Rattle.mat_files.specs.declared.faults.TextEnd.{TextEnd}
use Rattle.mat_files.specs.declared.faults.TextEnd.TheVariants as text
use Rattle.system_shape.specs.declared.faults.ShapeEnd.{ShapeEnd}
use Rattle.system_shape.specs.declared.faults.ShapeEnd.TheVariants as shape
use Rattle.system_files.specs.declared.faults.FileFault.TheVariants.{TooLong, Text}
use Rattle.system_files.specs.declared.faults.FileEnd.{FileEnd}
use Rattle.system_files.specs.declared.faults.FileEnd.TheVariants as file
use Rattle.system_files.specs.declared.faults.InputFault.TheVariants.{Shape}
use Rattle.system_files.specs.declared.faults.InputStop.{InputStop}
use Rattle.system_files.specs.declared.faults.InputStop.TheVariants as stop
use Rattle.system_files.specs.declared.faults.InputEnd.{InputEnd}
use Rattle.system_files.specs.declared.faults.InputEnd.TheVariants as input

abbrev pub text_end : TextEnd → FileEnd
text_end (text.Bad fault) = file.Bad (Text fault)
text_end text.Memory = file.Memory

abbrev pub file_end : ReadEnd → FileEnd
file_end (read.TooLong len) = file.Bad (TooLong len)
file_end read.Failed = file.Failed
file_end read.Memory = file.Memory

abbrev pub shape_end : ShapeEnd → InputStop
shape_end (shape.Bad fault) = stop.Bad (Shape fault)
shape_end shape.Memory = stop.Memory

-- without the file at which the folder failed
abbrev pub input_end : InputStop → InputEnd
input_end (stop.Bad fault) = input.Bad fault
input_end (stop.Failed source) = input.Failed
input_end stop.Memory = input.Memory
