mod Picks
