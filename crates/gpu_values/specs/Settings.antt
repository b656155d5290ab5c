-- The settings that an allocator begins with.
use Rattle.std.specs.Prelude.{true, false}
use Rattle.gpu_values.specs.declared.allocator_debug_settings.AllocatorDebugSettings.{AllocatorDebugSettings}

-- leaks alone are logged
abbrev pub default_debug_settings : AllocatorDebugSettings
default_debug_settings =
    record { log_memory_information = false; log_leaks_on_shutdown = true; log_allocations = false; log_frees = false }
