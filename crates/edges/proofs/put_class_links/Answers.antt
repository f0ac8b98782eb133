-- The keys, in order, each once.
use Rattle.std.proofs.Common.{arith}
use Rattle.edges.proofs.Laws.{keys_small, made_all}
use Rattle.edges.proofs.put_class_links.Goals as goal

pub sort-requires : goal.sort-requires
sort-requires c =
    let few = c.args.reg.now.few_links in
    let long = c.put_keys.auto.keys in
    (omega (arith, c.requires), omega (arith, c.requires))

pub put_links-requires : goal.put_links-requires
put_links-requires c =
    let few = c.args.reg.now.few_links in (
      omega (arith, c.requires, c.put_keys.auto.keys, c.sort.auto.a),
      c.requires.3,
      keys_small _ _ _ _ c.args.reg.now.accepted c.requires.0 c.requires.1 _ _ c.put_keys.ensures c.sort.ensures,
    )

pub returns : goal.returns
returns c = made_all _ _ _ _ c.args.reg.now.accepted c.requires.0 c.requires.1 _ _ c.put_keys.ensures c.sort.ensures _ _ c.put_links.ensures
