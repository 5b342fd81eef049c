use Rattle.sim_command.proofs.obey.say.Goals as goal

pub returns-in-Host : goal.returns-in-Host
returns-in-Host g c = rw c.in-Host.is c.finish-in-Host.ensures

pub returns-in-NoMemory : goal.returns-in-NoMemory
returns-in-NoMemory g c = rw c.in-NoMemory.is c.finish-in-NoMemory.ensures
