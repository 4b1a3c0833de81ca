use Rattle.std.proofs.Common.{◌≡◌, ap, ap₂, ◌||◌, not}
use Rattle.dpirun.specs.Names.{is_among, sv_keywords, c_keywords, library_names}
use Rattle.dpirun.proofs.names.is_free.Goals as goal

pub returns : goal.returns
unfolding sv_keywords c_keywords library_names
returns c =
    let of_sv : c.is_one_of-of_sv.result ≡ is_among sv_keywords c.args.word.now = c.is_one_of-of_sv.ensures in
    let of_c : c.is_one_of-of_c.result ≡ is_among c_keywords c.args.word.now = c.is_one_of-of_c.ensures in
    let of_library : c.is_one_of-of_library.result ≡ is_among library_names c.args.word.now =
    c.is_one_of-of_library.ensures in
    ap not (ap₂ (λ a b. a || b) (ap₂ (λ a b. a || b) of_sv of_c) of_library)
