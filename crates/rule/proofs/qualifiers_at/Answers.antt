use Rattle.scan.specs.Bytes.{bytes}
use Rattle.rule.specs.Places.{seen_optional}
use Rattle.rule.proofs.Laws.{qualified}
use Rattle.rule.proofs.qualifiers_at.Goals as goal

pub returns : goal.returns
unfolding bytes
returns c =
    let a = c.take_word-audit.ensures c.next_token-first.ensures in
    let l = c.take_word-allow.ensures a.token in
    let d = c.take_deny-deny.ensures l.token in
    let o = c.take_word-owner.ensures d.token in
    record {
      is = qualified c.args.text.now c.args.at.0 (seen_optional c.take_word-audit.result) (seen_optional c.take_word-allow.result) (seen_optional c.take_deny-deny.result) (seen_optional c.take_word-owner.result) a.is l.is d.is o.is;
      token = o.token;
    }
