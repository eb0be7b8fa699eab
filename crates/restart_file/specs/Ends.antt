-- How a refused call of a folder ends the reading of a restart file.
use Rattle.outside.specs.declared.ends.PutEnd.{PutEnd}
use Rattle.outside.specs.declared.ends.PutEnd.TheVariants as put
use Rattle.restart_file.specs.declared.ends.RestartEnd.{RestartEnd}
use Rattle.restart_file.specs.declared.ends.RestartEnd.TheVariants.{Failed, Memory}

-- a failure stays a failure, and running out of memory stays running out of memory
abbrev pub end_of_put : PutEnd → RestartEnd
end_of_put put.Failed = Failed
end_of_put put.Memory = Memory
