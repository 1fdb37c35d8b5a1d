-- Each limit is that of the description.
use Rattle.std.proofs.Common.{◌≡◌, ◌-◌, length, ap, ◌∙◌}
use Rattle.bson_lite.specs.Spelling.{spelling}
use Rattle.driver_ops.specs.Limits.{bytes_around, limit_of}
use Rattle.driver_ops.proofs.limits.limits_beside.Goals as goal

pub returns : goal.returns
returns c =
    let description = c.args.description.now in
    let body = c.args.body.now in
    let items_are : c.limit_of-items.result ≡ limit_of description.max_write_batch_size = c.limit_of-items.ensures in
    let bytes_are : c.bytes_beside-bytes.result ≡ limit_of description.max_message_size_bytes - bytes_around - length (spelling body) =
    c.bytes_beside-bytes.ensures ∙ ap (λ longest. longest - bytes_around - length (spelling body)) c.limit_of-longest.ensures in
    let each_are : c.limit_of-each.result ≡ limit_of description.max_bson_object_size = c.limit_of-each.ensures in
    λ i. record { items = items_are i; bytes = bytes_are i; each = each_are i }
