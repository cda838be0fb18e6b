use Rattle.std.proofs.Common.{◌≡◌, length, arith, refl}
use Rattle.serde_json.proofs.Views.{Entry}
use Rattle.qe_json_forms.proofs.FormLemmas.{only_of_one}
use Rattle.qe_json_forms.proofs.forms.only_member.Goals as goal

pub returns : goal.returns
returns c =
    let one : length c.args.members.now.entries ≡ 1 = omega arith in
    let e : Entry = (c.in_ok-name.name.now, c.in_ok-name.member.now) in
    rw (only_of_one c.args.members.now.entries e one c.in_ok-name.ensures.first, c.as_str.ensures.value) refl
