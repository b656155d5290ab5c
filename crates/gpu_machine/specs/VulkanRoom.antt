-- Refusals for lack of room, after which something else is tried.
use Rattle.std.specs.Prelude.{Bool, true, false}
use Rattle.gpu_values.specs.Refusal.{Refusal, out_of_memory, failed_to_map, no_compatible_memory_type_found, invalid_allocation_create_desc, invalid_allocator_create_desc}
use Rattle.gpu_values.specs.Refusal.{internal, barrier_layout_needs_device10, castable_formats_requires_enhanced_barriers, castable_formats_requires_at_least_device12, host_out_of_memory}
use Rattle.gpu_values.specs.Refusal.{budget_exceeded}

-- the memory type, its budget or its heap has no room: a smaller block, or another memory type, may have
abbrev pub lacks_room : Refusal → Bool
lacks_room out_of_memory = true
lacks_room budget_exceeded = true
lacks_room host_out_of_memory = false
lacks_room (failed_to_map text code) = false
lacks_room no_compatible_memory_type_found = false
lacks_room invalid_allocation_create_desc = false
lacks_room (invalid_allocator_create_desc text code) = false
lacks_room (internal text code) = false
lacks_room barrier_layout_needs_device10 = false
lacks_room castable_formats_requires_enhanced_barriers = false
lacks_room castable_formats_requires_at_least_device12 = false

-- a bound is why there is no room
abbrev pub is_bounded : Refusal → Bool
is_bounded budget_exceeded = true
is_bounded out_of_memory = false
is_bounded host_out_of_memory = false
is_bounded (failed_to_map text code) = false
is_bounded no_compatible_memory_type_found = false
is_bounded invalid_allocation_create_desc = false
is_bounded (invalid_allocator_create_desc text code) = false
is_bounded (internal text code) = false
is_bounded barrier_layout_needs_device10 = false
is_bounded castable_formats_requires_enhanced_barriers = false
is_bounded castable_formats_requires_at_least_device12 = false
