use Rattle.std.proofs.Common.{◌∷◌, ap, sym}
use Rattle.gpu_capture.specs.Words.{location_word}
use Rattle.gpu_trace_text.specs.D3D12Resource.{place_word, category_word}
use Rattle.gpu_trace_text.proofs.D3D12Meaning.{nine_are}
use Rattle.gpu_trace_text.proofs.d3d12.resource.described.Goals as goal

pub returns : goal.returns
returns c =
    let desc = c.in-Some.ensures in
    let initial = c.in-Some-initial_of.ensures in
    let formats = rw c.in-Some-2.is at c.in_ok-castable_formats.ensures in
    let clear = rw c.in-Some-3.is at c.in_ok-clear_value.ensures in
    let named = rw c.in-Some-4.is at c.in_ok-name.ensures in
    record {
      is = ap (λ rest. place_word c.args.memory ∷ location_word c.args.location ∷ category_word c.args.category ∷ rest)
          (nine_are c.args.arguments.now _ c.in-len9.len_at_least c.in-len9.len_below desc.dimension_is desc.width_is desc.height_is desc.depth_is desc.flags_are initial.1 formats.1 clear.1 (sym named.1));
      fits = record {
        memory_fits = c.requires;
        desc_fits = desc.fits;
        initial_fits = initial.0;
        formats_fit = formats.0;
        clear_fits = clear.0;
        name_fits = rw named.1 named.0;
      };
    }
