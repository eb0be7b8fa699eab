-- How a refused call of a folder ends the reading of a whole file.
use Rattle.outside.specs.declared.ends.PutEnd.{PutEnd}
use Rattle.outside.specs.declared.ends.PutEnd.TheVariants.{Failed, Memory}
use Rattle.outside.specs.declared.ends.ReadEnd.{ReadEnd}
use Rattle.outside.specs.declared.ends.ReadEnd.TheVariants as read

-- a failure stays a failure, and running out of memory stays running out of memory
abbrev pub read_end : PutEnd → ReadEnd
read_end Failed = read.Failed
read_end Memory = read.Memory
