-- What was written, then the places that are left.
use Rattle.std.proofs.Common.{◌≡◌, ◌++◌, drop, map, string_bytes}
use Rattle.report_lines.specs.Words.{listed, more_texts, place_text}
use Rattle.report_lines.proofs.words.push_places.Given as goal

abbrev pub invariant-loop-write : goal.invariant-loop-write
invariant-loop-write l =
    string_bytes l.out ++ more_texts (map (λ write. place_text write.place) (drop l.write-index l.rest))
    ≡ string_bytes l.fn.out ++ listed (map (λ write. place_text write.place) l.fn.writes)
