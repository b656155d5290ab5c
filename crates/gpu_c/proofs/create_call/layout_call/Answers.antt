use Rattle.std.proofs.Common.{◌∙◌, sym}
use Rattle.gpu_c.proofs.CreateCalls.{with_formats, needs_device12, needs_device10, without_formats}
use Rattle.gpu_c.proofs.create_call.layout_call.Goals as goal

pub returns-then-version-eq-DEVICE12-clause-told : goal.returns-then-version-eq-DEVICE12-clause-told
returns-then-version-eq-DEVICE12-clause-told c v b castable t = with_formats v b castable t.layout_is (t.version_is ∙ c.if-version-eq-DEVICE12.true)

pub returns-then-has_formats-clause-told : goal.returns-then-has_formats-clause-told
returns-then-has_formats-clause-told c v b castable t =
    needs_device12 v b castable _ t.layout_is (t.formats_are ∙ c.if-has_formats.true) (λ n. c.if-version-eq-DEVICE12.false (sym t.version_is ∙ n))

pub returns-then-version-eq-DEVICE-clause-told : goal.returns-then-version-eq-DEVICE-clause-told
returns-then-version-eq-DEVICE-clause-told c v b castable t =
    needs_device10 v b castable _ t.layout_is (t.formats_are ∙ c.if-has_formats.false) (t.version_is ∙ c.if-version-eq-DEVICE.true)

pub returns-clause-told : goal.returns-clause-told
returns-clause-told c v b castable t =
    without_formats v b castable t.layout_is (t.formats_are ∙ c.if-has_formats.false) (λ n. c.if-version-eq-DEVICE12.false (sym t.version_is ∙ n))
    (λ n. c.if-version-eq-DEVICE.false (sym t.version_is ∙ n))
