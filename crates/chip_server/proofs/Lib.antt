mod ServedPieces
mod Serves
