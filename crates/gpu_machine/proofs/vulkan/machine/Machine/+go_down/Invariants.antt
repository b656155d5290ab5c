use Rattle.gpu_machine.proofs.vulkan.machine.Machine.+go_down.Given as goal

abbrev pub decreases-go_down : goal.decreases-go_down
decreases-go_down g l = l.desc.now.requirements.memory_type_bits
